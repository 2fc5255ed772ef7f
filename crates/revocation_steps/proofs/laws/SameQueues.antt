-- What goes by the words of the queues alone: where each pid's queue stands, how many are free and how many are needed, and the notices.
use Rattle.std.proofs.Common.{not, List, [], ◌∷◌, ◌≡◌, refl, ap, ap₂, ℕ, ◌+◌, ◌<◌, arith, le-ltb, eqb, ltb}
use Rattle.std.proofs.Math.Decide.{dec_lt}
use Rattle.std.proofs.Math.Logic.{by_cases}
use Rattle.base.specs.Below.{one}
use Rattle.base.specs.Choose.{pick, both}
use Rattle.base.specs.FirstLaws.{first_ext}
use Rattle.base.specs.SumLaws.{sum_ext}
use Rattle.revocation.specs.Queue.{notices}
use Rattle.revocation.specs.Words.{pid_of, length_of}
use Rattle.world.specs.Regions.{queue, view}
use Rattle.world.specs.declared.Numbers.{Numbers}
use Rattle.revocation_steps.specs.Revocation.{queue_for, free_queues, is_in, new_queues}

-- The notices of a pid, oldest first, three words each; none where it has no queue.
abbrev pub notices_of : Numbers → List ℕ → ℕ → List ℕ
notices_of d mem pid = pick (ltb (queue_for d mem pid) d.queues) (notices (view d (queue (queue_for d mem pid)) mem)) []

module _ (d : Numbers) (mem mem' : List ℕ) (same : (q : ℕ) → q < d.queues → view d (queue q) mem' ≡ view d (queue q) mem) where
  pub same_queue_for : (pid : ℕ) → queue_for d mem' pid ≡ queue_for d mem pid
  same_queue_for pid = first_ext _ _ d.queues (λ q l. ap (λ qu. both (ltb 0 (length_of qu)) (eqb (pid_of qu) pid)) (same q l))

  pub same_free_queues : free_queues d mem' ≡ free_queues d mem
  unfolding free_queues
  same_free_queues = sum_ext _ _ d.queues (λ q l. ap (λ qu. one (eqb (length_of qu) 0)) (same q l))

  pub same_new_queues : (listed : List ℕ) → new_queues d mem' listed ≡ new_queues d mem listed
  unfolding new_queues
  same_new_queues [] = refl
  same_new_queues (pid ∷ listed) =
      ap₂ (λ q n. one (both (not (ltb q d.queues)) (not (is_in pid listed))) + n) (same_queue_for pid) (same_new_queues listed)

  pub same_notices : (pid : ℕ) → notices_of d mem' pid ≡ notices_of d mem pid
  same_notices pid =
      let q : ℕ = queue_for d mem pid in
      rw (same_queue_for pid)
      (by_cases (dec_lt q d.queues)
      (λ l. ap (λ qu. pick (ltb q d.queues) (notices qu) []) (same q l))
      (λ none. rw (le-ltb q d.queues (omega arith))))
