-- The walk of an id over c slots: it starts at home, goes up by one and around, and in c steps meets no slot twice.
use Rattle.std.proofs.Common.{◌≡◌, ⊎_elim, List, ℕ, ◌+◌, ◌%◌, ◌<◌, ◌≤◌, mod-lt, add-zero, add_assoc, arith, lt-ltb, le-ltb, None, Some}
use Rattle.std.proofs.Math.Nat.{mod-mod, mod-add-mod}
use Rattle.base.specs.Around.{wrap}
use Rattle.base.specs.Choose.{pick}
use Rattle.table.specs.Slots.{is_live}
use Rattle.table.specs.Walk.{home_of, walk, steps_to_stop, search}

pub home_lt : (id c : ℕ) → 0 < c → home_of id c < c
unfolding home_of
home_lt id c pos = mod-lt _ pos

pub walk_lt : (id c t : ℕ) → 0 < c → walk id c t < c
unfolding walk
walk_lt id c t pos = mod-lt _ pos

pub walk_home : (id c : ℕ) → walk id c 0 ≡ home_of id c
unfolding walk home_of
walk_home id c = rw (add-zero, mod-mod)

pub walk_next : (id c t : ℕ) → walk id c (t + 1) ≡ (walk id c t + 1) % c
unfolding walk
walk_next id c t = rw (mod-add-mod, add_assoc)

-- Below c steps, different steps meet different slots.
pub walk_injective : (id c s t : ℕ) → s < c → t < c → walk id c s ≡ walk id c t → s ≡ t
unfolding walk
walk_injective id c s t ls lt e =
    let h : home_of id c < c = home_lt id c (omega arith) in
    let at_t = wrap (home_of id c + t) c (omega arith) in
    ⊎_elim
    (λ up. ⊎_elim (λ v. omega arith) (λ v. omega arith) at_t)
    (λ over. ⊎_elim (λ v. omega arith) (λ v. omega arith) at_t)
    (wrap (home_of id c + s) c (omega arith))

-- ---- a search, by the steps n that it takes

pub search_stops :
    (ws : List ℕ) (slots id n : ℕ) → steps_to_stop ws slots id ≡ n → n < slots
    → search ws slots id ≡ record { found = pick (is_live ws (walk id slots n)) (Some (walk id slots n)) None; visits = n + 1 }
unfolding search
search_stops ws slots id n e l = rw (e, lt-ltb n slots l)

pub search_runs_out :
    (ws : List ℕ) (slots id n : ℕ) → steps_to_stop ws slots id ≡ n → slots ≤ n → search ws slots id ≡ record { found = None; visits = n }
unfolding search
search_runs_out ws slots id n e l = rw (e, le-ltb n slots l)
