-- The words from place k to the end, lent as `&sp[k..]` or `&mut sp[k..]`: what the callee is lent, and what stands after it has returned.
use Rattle.std.proofs.Common.{◌≡◌, ℕ, ◌-◌, List, ◌++◌, length, take, drop, append-nil, le_refl, length-drop, drop_of_length-le, take_all}

module _ (k : ℕ) (sp : List ℕ) where
  pub lent_rest : take (length sp - k) (drop k sp) ≡ drop k sp
  lent_rest = take_all (length sp - k) (drop k sp) (rw length-drop (le_refl _))

  pub lent_back : (after : List ℕ) → take k sp ++ (after ++ drop (length sp - k) (drop k sp)) ≡ take k sp ++ after
  lent_back after = rw (drop_of_length-le (drop k sp) {i = length sp - k} (rw length-drop (le_refl _)), append-nil)
