use Rattle.std.proofs.Common.{◌≡◌, ℕ, suc, ◌-◌, ◌<◌, ◌≤◌, Bool, true, false, List, sym, refl, ap, ◌∙◌, arith, rules}
use Rattle.registry.specs.Registering.{unregistered, unneeded, Collected, collected_below, collected}
use Rattle.registry.proofs.registering.collect.Goals as goal

starts : (places p n : ℕ) (rg : List ℕ) → collected_below places p n n rg ≡ collected places p n rg
unfolding collected
starts places p n rg = refl

module _ (places p k left : ℕ) (rg : List ℕ) (answer : Collected) (e : collected_below places p k left rg ≡ answer) where
  module _ (some : 0 < k) (leaves : Bool) (test : leaves ≡ unneeded places p left rg (k - 1)) where
    stays : leaves ≡ false → collected_below places p (k - 1) left rg ≡ answer
    unfolding collected_below
    stays no' = let more : k ≡ suc (k - 1) = omega arith in rw (sym test ∙ no') at (rw more at e)

    goes : (rg' : List ℕ) → leaves ≡ true → rg' ≡ unregistered places left (k - 1) rg
        → collected_below places p (k - 1) (left - 1) rg' ≡ answer
    unfolding collected_below
    goes rg' yes' h = let more : k ≡ suc (k - 1) = omega arith in rw h (rw (sym test ∙ yes') at (rw more at e))

  module _ (none : k ≤ 0) where
    ends : record { left = left; words = rg } ≡ answer
    unfolding collected_below
    ends = let nothing : k ≡ 0 = omega arith in rw nothing at e

    ends_left : left ≡ answer.left
    ends_left = ap (λ r. r.left) ends

    ends_words : rg ≡ answer.words
    ends_words = ap (λ r. r.words) ends

ruleset laws = (rules, starts, stays, goes, ends_left, ends_words)

pub loop-k-init : goal.loop-k-init
loop-k-init c = search laws

pub loop-k-preserved-then-unneeded : goal.loop-k-preserved-then-unneeded
loop-k-preserved-then-unneeded c = search laws

pub loop-k-preserved : goal.loop-k-preserved
loop-k-preserved c = search laws

pub returns : goal.returns
returns c = search laws
