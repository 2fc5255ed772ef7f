-- A copy by way of the scratch: what `replace` asks, and that it leaves the copy.
use Rattle.std.proofs.Common.{List, ◌≡◌, ap, ◌∙◌, ℕ, ◌≤◌, ◌<◌, length, take, length-take-le}
use Rattle.space.specs.Copy.{copied_table, copied_space, replacement, replaced}
use Rattle.space.specs.Ids.{entry_ids}
use Rattle.space.specs.Sound.{SpaceOf}
use Rattle.space.specs.Words.{generation_of, table_of, slot_words, words_for}
use Rattle.space.proofs.laws.Copied.{replacement_copies, replaced_copies, replace_fits}
use Rattle.table.specs.Insert.{Table, holds, gathered}
use Rattle.world.specs.declared.Numbers.{Numbers}
use Rattle.steps.specs.Ready.{Ready}
use Rattle.steps.proofs.laws.Ready.{ready_space}
use Rattle.steps.specs.Steps.{space_of, copied_of}

module _ (d : Numbers) (mem : List ℕ) (target source : ℕ) (ready : Ready d mem) (there : target < d.spaces) (here : source < d.spaces)
    (from to kept zeros : List ℕ) (count : ℕ) (from_is : from ≡ space_of d source mem) (to_is : to ≡ space_of d target mem)
    (whole : length zeros ≡ 2048) (filled : holds kept count ≡ gathered (slot_words from) 0 (table_of from).slots (holds zeros 0))
  where
    s : SpaceOf d.most from
    s = rw from_is (ready_space d mem ready source here)

    t : SpaceOf d.most to
    t = rw to_is (ready_space d mem ready target there)

    pub replace_asks : (count ≤ 256) × (words_for count ≤ length to)
    replace_asks = replace_fits d.most from to s t kept zeros count whole filled

    pub copied_target : (generation : ℕ) (after : List ℕ) → generation ≡ generation_of from → after ≡ replaced to kept count generation
        → after ≡ copied_space (space_of d source mem) to
    copied_target generation after same is =
        is ∙ ap (replaced to kept count) same ∙ replaced_copies d.most from to s t kept zeros count whole filled
        ∙ ap (λ sp. copied_space sp to) from_is

    pub copied_moves : (moved : ℕ) → moved ≡ (replacement to kept count).moved
        → moved ≡ (copied_table (space_of d source mem) (space_of d target mem)).moved
    copied_moves moved is =
        is ∙ ap (λ (u : Table). u.moved) (replacement_copies d.most from to s t kept zeros count whole filled)
        ∙ rw (from_is, to_is)

pub copied_answer :
    (d : Numbers) (target source : ℕ) (mem came : List ℕ) (moved accepted : ℕ)
    → moved ≡ (copied_table (space_of d source mem) (space_of d target mem)).moved → take accepted came ≡ entry_ids (space_of d source mem)
    → accepted ≤ length came → record { moved = moved; accepted = accepted } ≡ copied_of d target source mem
unfolding copied_of
copied_answer d target source mem came moved accepted moves come fits =
    rw (← come, length-take-le accepted came fits, moves)
