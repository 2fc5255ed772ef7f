-- An entry of each id of a live slot is what the slots count.
use Rattle.std.proofs.Common.{List, ◌≡◌, ap, ◌∙◌, ℕ, ◌≤◌, arith, length, take, replicate, length-take-le, get_or-take}
use Rattle.std.proofs.Math.ListN.{length-replicate}
use Rattle.registry.specs.Counts.{count_entries, entries_ext}
use Rattle.space.proofs.Lent.{lent_rest}
use Rattle.world_look.specs.Look.{count_slots, live_below, live_ids, length_live, live_counted}
use Rattle.world_look.proofs.count_space.Goals as goal

-- Room for as many ids as a table has slots.
abbrev zeros : List ℕ
zeros = replicate 512 0

-- What is known once the ids are written.
module _
    (ws : List ℕ) (slots : ℕ) (xs : List ℕ) (n : ℕ) (few : slots ≤ 512) (told : (n ≡ live_below ws slots) × (n ≤ slots))
    (written : xs ≡ live_ids ws slots zeros)
  where
    long : length xs ≡ 512
    long = rw (written, length_live, length-replicate)

    taken : length (take n xs) ≡ n
    taken = length-take-le n xs (omega (arith, long, told.1))

    counted :
        (ids counts after : List ℕ) → after ≡ count_entries ids (take n xs) (length (take n xs)) counts
        → after ≡ count_slots ids ws slots counts
    counted ids counts after e =
        e ∙ ap (λ m. count_entries ids (take n xs) m counts) taken
        ∙ entries_ext ids (take n xs) xs n counts (λ k l. get_or-take n xs k 0 l)
        ∙ rw (written, told.0) (live_counted ids ws slots zeros counts (rw length-replicate few))

pub returns : goal.returns
returns c =
    let told = c.live_ids-n.ensures.value in
    let written = c.live_ids-n.ensures.ids_after in
    counted _ _ _ _ (omega arith) told written _ _ _ c.count_entries.ensures ∙ rw lent_rest
