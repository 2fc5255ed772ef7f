-- What a scratch array holds after gathering: behind what it held, the live entries in slot order.
use Rattle.std.proofs.Common.{◌≡◌, refl, sym, ap, ap₂, ◌∙◌, Bool, true, false, List, [], ◌∷◌, ◌++◌, append_assoc, append-nil, ℕ, zero, suc, ◌+◌, ◌*◌, ◌^◌, ◌<◌, ◌≤◌, add-zero, zero-add, add-one, arith, length}
use Rattle.base.specs.Choose.{pick}
use Rattle.base.specs.Below.{one}
use Rattle.table.specs.Slots.{is_live, entry_at, put_entry}
use Rattle.table.specs.Insert.{Scratch, live_entries, scratch_entries, gathered}
use Rattle.table.specs.declared.CapabilityEntry.{CapabilityEntry}
use Rattle.table.proofs.laws.Contents.{entry_rights}
use Rattle.table.proofs.laws.Slots.{same_entry, entry_others, entry_read, entry_length}

scratch_before : (kept : List ℕ) (c : ℕ) (e : CapabilityEntry) (i n : ℕ) → i + n ≤ c
    → scratch_entries (put_entry kept c e) i n ≡ scratch_entries kept i n
unfolding scratch_entries
scratch_before kept c e i zero l = refl
scratch_before kept c e i (suc n) l =
    ap₂ ◌∷◌ (same_entry kept (put_entry kept c e) i (entry_others kept c i e (omega arith)))
    (scratch_before kept c e (suc i) n (omega arith))

scratch_last : (ws : List ℕ) (i n : ℕ) → scratch_entries ws i (suc n) ≡ scratch_entries ws i n ++ (entry_at ws (i + n) ∷ [])
unfolding scratch_entries
scratch_last ws i zero = rw add-zero
scratch_last ws i (suc n) =
    let up : i + suc n ≡ suc i + n = omega arith in
    rw up (ap (λ r. entry_at ws i ∷ r) (scratch_last ws (suc i) n))

-- One entry more, behind the others.
scratch_more : (kept : List ℕ) (c : ℕ) (e : CapabilityEntry) → e.rights.0 < 2 ^ 32 → 4 * c + 3 < length kept
    → scratch_entries (put_entry kept c e) 0 (c + 1) ≡ scratch_entries kept 0 c ++ (e ∷ [])
scratch_more kept c e r l = rw (add-one, scratch_last, zero-add, scratch_before kept c e 0 c (omega arith), entry_read kept c e l r)

pub gathered_lists : (ws : List ℕ) (i n : ℕ) (s : Scratch) → 4 * (s.count + n) ≤ length s.kept
    → scratch_entries (gathered ws i n s).kept 0 (gathered ws i n s).count ≡ scratch_entries s.kept 0 s.count ++ live_entries ws i n
unfolding gathered live_entries
gathered_lists ws i zero s l = sym (append-nil (scratch_entries s.kept 0 s.count))
gathered_lists ws i (suc n) s l = go (is_live ws i) (gathered_lists ws (suc i) n)
  where
    held : List CapabilityEntry
    held = scratch_entries s.kept 0 s.count

    rest : List CapabilityEntry
    rest = live_entries ws (suc i) n

    step : Bool → Scratch
    step b = record { kept = pick b (put_entry s.kept s.count (entry_at ws i)) s.kept; count = s.count + one b }

    go : (b : Bool)
        → ((t : Scratch) → 4 * (t.count + n) ≤ length t.kept
        → scratch_entries (gathered ws (suc i) n t).kept 0 (gathered ws (suc i) n t).count ≡ scratch_entries t.kept 0 t.count ++ rest)
        → scratch_entries (gathered ws (suc i) n (step b)).kept 0 (gathered ws (suc i) n (step b)).count
        ≡ held ++ pick b (entry_at ws i ∷ rest) rest
    go true ih =
        ih (step true) (rw entry_length (omega arith))
        ∙ ap (λ r. r ++ rest) (scratch_more s.kept s.count (entry_at ws i) (entry_rights ws i) (omega arith))
        ∙ append_assoc held (entry_at ws i ∷ []) rest
    go false ih = ih (step false) (omega arith) ∙ rw add-zero

pub scratch_length : (ws : List ℕ) (i n : ℕ) → length (scratch_entries ws i n) ≡ n
unfolding scratch_entries
scratch_length ws i zero = refl
scratch_length ws i (suc n) = ap suc (scratch_length ws (suc i) n)

-- Into an empty scratch: it lists the live entries, and counts them.
module _ (ws kept zeros : List ℕ) (slots count : ℕ) (fits : 4 * slots ≤ length zeros)
    (filled : record { kept = kept; count = count } ≡ gathered ws 0 slots (record { kept = zeros; count = 0 }))
  where
    pub gathered_live : scratch_entries kept 0 count ≡ live_entries ws 0 slots
    unfolding scratch_entries
    gathered_live = ap (λ (s : Scratch). scratch_entries s.kept 0 s.count) filled
        ∙ gathered_lists ws 0 slots (record { kept = zeros; count = 0 }) (rw zero-add fits)

    pub gathered_count : count ≡ length (live_entries ws 0 slots)
    gathered_count = sym (scratch_length kept 0 count) ∙ ap length gathered_live
