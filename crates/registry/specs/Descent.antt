-- Document 01, "Revocation": an id and all its descendants, breadth first, each once; and that they are revoked. n ids are registered, in
-- a registry of `places` places.
use Rattle.std.specs.Prelude.{ℕ, zero, suc, ◌+◌, ◌*◌, List, [], ◌∷◌, ◌++◌, length, ◌==◌, nat_eq, nat_lt, slice_index, slice_set}
use Rattle.base.specs.Choose.{pick}
use Rattle.base.specs.Sifted.{sifted}
use Rattle.registry.specs.Words.{state_at, revoked}
use Rattle.registry.specs.Children.{child_places}

-- The places found so far, and behind them the children of each from the at-th on, in turn. Links name earlier places, so each place is
-- found once, there are at most n, and m turns suffice where m + at is n.
unfoldable pub descended_from : ℕ → ℕ → List ℕ → ℕ → ℕ → List ℕ → List ℕ
descended_from places n rg zero at found = found
descended_from places n rg (suc m) at found =
    pick (nat_lt at (length found))
    (descended_from places n rg m (at + 1) (found ++ child_places places (slice_index found at) n rg))
    found

-- Place r and all below it, breadth first.
unfoldable pub descent : ℕ → ℕ → List ℕ → ℕ → List ℕ
descent places n rg r = descended_from places n rg n 0 (r ∷ [])

-- Of these places those that are not revoked yet.
unfoldable pub unrevoked_of : ℕ → List ℕ → List ℕ → List ℕ
unrevoked_of places rg ks = sifted (λ k. nat_eq (revoked (state_at places rg k)) 0) ks

-- Revoked, with generation up by one: the generation is the flag.
abbrev pub marked_state : ℕ → ℕ
marked_state state = pick (revoked state == 0) (state + 1) state

unfoldable pub marked : ℕ → List ℕ → List ℕ → List ℕ
marked places [] rg = rg
marked places (k ∷ ks) rg = marked places ks (slice_set rg (2 * places + k) (marked_state (state_at places rg k)))
