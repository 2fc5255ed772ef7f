-- What is lent is the space; if it is sound, its slots fit its words.
use Rattle.std.proofs.Common.{Bool, false, not, List, ◌≡◌, sym, ◌∙◌, ℕ, ◌+◌, ◌-◌, ◌*◌, ◌≤◌, ◌<◌, arith, rules, length, take, drop}
use Rattle.std.proofs.lemmas.Bool.{not-false}
use Rattle.space.specs.Sound.{SoundSpace, space_test}
use Rattle.space.specs.Words.{table_of, slot_words, words_for}
use Rattle.space.proofs.laws.Tests.{space_exactly}
use Rattle.world.specs.Layout.{width_le}
use Rattle.world_look.specs.Look.{count_slots, slots_fit, Looked, looked_more}
use Rattle.world.specs.Regions.{space, width_of, view, Spans}
use Rattle.world.specs.SoundLaws.{Headed}
use Rattle.world.specs.Views.{length_view, lent_view}
use Rattle.world.specs.declared.Numbers.{Numbers}
use Rattle.world_look.proofs.space_sound.Goals as goal
use Rattle.world_look.proofs.space_sound.Goals.{After-space}

-- What is known once the space's places are.
record Placed (d : Numbers) (mem : List ℕ) (s start end : ℕ) : Type 0 where
  head : Headed d mem
  there : s < d.spaces
  spans : Spans d (space s) start end

placed : (c : After-space) → Placed c.args.d c.args.mem.now c.args.s c.space.result.start c.space.result.end
placed c = record { head = c.requires.headed.0; there = c.requires.headed.1; spans = c.space.ensures }

module _ {d : Numbers} {mem : List ℕ} {s start end : ℕ} (p : Placed d mem s start end) where
  abbrev sp : List ℕ
  sp = take (end - start) (drop start mem)

  sp_is : sp ≡ view d (space s) mem
  sp_is = lent_view d (space s) mem start end p.spans.is p.spans.ends

  long : length sp ≡ words_for d.most
  unfolding width_of
  long = rw sp_is (length_view d (space s) mem p.there p.head.long_enough)

  module _ {r : Bool} (e : r ≡ space_test d.most sp) where
    tested : r ≡ space_test d.most (view d (space s) mem)
    tested = rw (← sp_is) e

    module _ (t : not r ≡ false) where
      sound : SoundSpace d.most sp
      sound = (space_exactly d.most sp).0 (sym e ∙ not-false r t)

      few : (table_of sp).slots ≤ 512
      unfolding width_of
      few = omega (arith, slots_fit d.most sp sound, width_le d p.head.in_range)

      fit : 8 + 4 * (table_of sp).slots ≤ length sp
      fit = omega (arith, slots_fit d.most sp sound, long)

      counted : {ids counts after : List ℕ} → Looked d mem ids s counts → after ≡ count_slots ids (slot_words sp) (table_of sp).slots counts
          → Looked d mem ids (s + 1) after
      counted {ids} {counts} looked h = rw (h, sp_is) (looked_more d mem ids s counts looked (rw sp_is at sound) (rw sp_is at few))

pub is_sound-requires : goal.is_sound-requires
is_sound-requires c = (omega arith, omega (arith, long (placed (goal.at.is_sound-requires c).After-space)))

pub count_space-requires-clause-sp_bound : goal.count_space-requires-clause-sp_bound
count_space-requires-clause-sp_bound c = search (rules, few, fit)

pub returns-clause-looked_2 : goal.returns-clause-looked_2
returns-clause-looked_2 c = search (rules, counted)

pub returns-clause-value : goal.returns-clause-value
returns-clause-value c = search (rules, tested)
