-- The turns of the loops of a rebuild: slots emptied, live entries gathered, entries placed.
use Rattle.std.proofs.Common.{◌≡◌, refl, sym, ap, ◌∙◌, List, ℕ, suc, ◌+◌, ◌-◌, ◌*◌, ◌<◌, ◌≤◌, le_antisymm, add-one, arith, rules, set}
use Rattle.std.proofs.Math.Nat.{sub-zero}
use Rattle.table.specs.Slots.{entry_at, put_entry, id_of}
use Rattle.table.specs.Walk.{free_for}
use Rattle.table.specs.Insert.{Scratch, emptied, gathered, scratch_entries, place_all}
use Rattle.table.specs.declared.CapabilityEntry.{CapabilityEntry}

-- ---- slots emptied, from slot 0 up

pub empty_starts : (ws : List ℕ) → ws ≡ emptied ws 0
unfolding emptied
empty_starts ws = refl

pub empty_goes : (ws₀ ws : List ℕ) (i : ℕ) → ws ≡ emptied ws₀ i → set ws (4 * i + 3) 0 ≡ emptied ws₀ (i + 1)
unfolding emptied
empty_goes ws₀ ws i e = rw (e, add-one)

pub empty_ends : (ws₀ ws : List ℕ) (i n : ℕ) → ws ≡ emptied ws₀ i → i ≤ n → n ≤ i → ws ≡ emptied ws₀ n
empty_ends ws₀ ws i n e l m = e ∙ ap (emptied ws₀) (le_antisymm l m)

pub ruleset empty_laws = (empty_starts, empty_goes, empty_ends, rules)

-- ---- live entries gathered: what is left to gather from slot i on, and it is the whole

pub gather_starts : (ws : List ℕ) (slots : ℕ) (s : Scratch) → gathered ws 0 (slots - 0) s ≡ gathered ws 0 slots s
gather_starts ws slots s = ap (λ n. gathered ws 0 n s) (sub-zero slots)

pub gather_goes : (ws : List ℕ) (slots i : ℕ) (s t whole : Scratch) → gathered ws i (slots - i) s ≡ whole → i < slots
    → t ≡ gathered ws i 1 s → gathered ws (i + 1) (slots - (i + 1)) t ≡ whole
unfolding gathered
gather_goes ws slots i s t whole e l f =
    let more : slots - i ≡ suc (slots - suc i) = omega arith in
    rw (f, add-one) (sym (ap (λ n. gathered ws i n s) more) ∙ e)

pub gather_ends : (ws : List ℕ) (slots i : ℕ) (s whole : Scratch) → gathered ws i (slots - i) s ≡ whole → slots ≤ i → s ≡ whole
unfolding gathered
gather_ends ws slots i s whole e l =
    let none : slots - i ≡ 0 = omega arith in
    sym (ap (λ n. gathered ws i n s) none) ∙ e

pub ruleset gather_laws = (gather_starts, gather_goes, gather_ends, rules)

-- ---- entries placed: those of the scratch from entry i on

pub place_starts : (scratch ws : List ℕ) (slots count : ℕ)
    → place_all (scratch_entries scratch 0 (count - 0)) ws slots ≡ place_all (scratch_entries scratch 0 count) ws slots
place_starts scratch ws slots count = ap (λ n. place_all (scratch_entries scratch 0 n) ws slots) (sub-zero count)

pub place_goes : (scratch ws after whole : List ℕ) (slots count i j id : ℕ) (e : CapabilityEntry)
    → place_all (scratch_entries scratch i (count - i)) ws slots ≡ whole → i < count → e ≡ entry_at scratch i → id ≡ id_of e
    → j ≡ free_for ws slots id → after ≡ put_entry ws j e
    → place_all (scratch_entries scratch (i + 1) (count - (i + 1))) after slots ≡ whole
unfolding scratch_entries place_all
place_goes scratch ws after whole slots count i j id e h l r s t u =
    let more : count - i ≡ suc (count - suc i) = omega arith in
    rw (u, t, s, r, add-one) (sym (ap (λ n. place_all (scratch_entries scratch i n) ws slots) more) ∙ h)

pub place_ends : (scratch ws whole : List ℕ) (slots count i : ℕ)
    → place_all (scratch_entries scratch i (count - i)) ws slots ≡ whole → count ≤ i → ws ≡ whole
unfolding scratch_entries place_all
place_ends scratch ws whole slots count i h l =
    let none : count - i ≡ 0 = omega arith in
    sym (ap (λ n. place_all (scratch_entries scratch i n) ws slots) none) ∙ h

pub ruleset place_laws = (place_starts, place_goes, place_ends, rules)
