-- How many spaces have an entry of an id, where one space changes and where none does.
use Rattle.std.proofs.Common.{◌≡◌, ℕ, ◌+◌, ◌<◌, ◌≢◌, List, sym, ap, arith, ne_eqb}
use Rattle.base.specs.Below.{one}
use Rattle.base.specs.SumLaws.{sum_ext, sum_update}
use Rattle.world.specs.Regions.{space, view, on_region}
use Rattle.world.specs.Sound.{has_entry, spaces_with}
use Rattle.world.specs.Views.{Change, view_same, view_other}
use Rattle.world.specs.declared.Numbers.{Numbers}

pub same_spaces :
    (d : Numbers) (mem mem' : List ℕ) → ((s : ℕ) → s < d.spaces → view d (space s) mem' ≡ view d (space s) mem) → (id : ℕ)
    → spaces_with d mem' id ≡ spaces_with d mem id
unfolding spaces_with
same_spaces d mem mem' same id = sum_ext _ _ d.spaces (λ s l. ap (λ sp. one (has_entry sp id)) (same s l))

module _ (d : Numbers) (s : ℕ) (f : List ℕ → List ℕ) (mem : List ℕ) (ch : Change d (space s) f mem) where
  pub other_space : (k : ℕ) → k < d.spaces → k ≢ s → view d (space k) (on_region d (space s) f mem) ≡ view d (space k) mem
  other_space k l apart = view_other d (space s) f mem ch (space k) l (ne_eqb s k (λ e. apart (sym e)))

  pub space_changed :
      (id : ℕ)
      → spaces_with d (on_region d (space s) f mem) id + one (has_entry (view d (space s) mem) id)
      ≡ spaces_with d mem id + one (has_entry (f (view d (space s) mem)) id)
  unfolding spaces_with
  space_changed id =
      let old : ℕ → ℕ = λ k. one (has_entry (view d (space k) mem) id) in
      let new : ℕ → ℕ = λ k. one (has_entry (view d (space k) (on_region d (space s) f mem)) id) in
      omega (
        arith,
        sum_update old new d.spaces s ch.valid (λ k l apart. ap (λ sp. one (has_entry sp id)) (other_space k l apart)),
        ap (λ sp. one (has_entry sp id)) (view_same d (space s) f mem ch),
      )
