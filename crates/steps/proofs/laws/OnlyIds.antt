-- Taking an id changes the recycled ids with their count, or the next id, and nothing else.
use Rattle.std.proofs.Common.{◌≡◌, ℕ, ◌+◌, ◌-◌, ◌*◌, ◌^◌, ◌<◌, ◌≢◌, List, get_or, set, refl, ap, ◌∙◌}
use Rattle.registry.specs.Ids.{first_taken}
use Rattle.registry.specs.IdsLaws.{taken_columns}
use Rattle.steps.specs.Steps.{space_of, take_step}
use Rattle.steps.proofs.laws.TakeStep.{one_less, one_more}
use Rattle.steps.proofs.laws.Taking.{take_by_cases}
use Rattle.world.specs.Numbers.{next_of, recycled_of}
use Rattle.world.specs.Regions.{registry, log, queue, view, on_region}
use Rattle.world.specs.Sound.{SoundAt}
use Rattle.world.specs.Views.{registry_words}
use Rattle.world.specs.declared.Numbers.{Numbers}

-- Words 5 and 12 of the head are the next id and the count of recycled ids, which stand in the registry past its four columns.
pub record OnlyIds (d : Numbers) (mem after : List ℕ) : Type 0 where
  pub same_spaces : (k : ℕ) → k < d.spaces → space_of d k after ≡ space_of d k mem
  pub same_columns : (i : ℕ) → i < 4 * d.places → get_or (view d registry after) i 0 ≡ get_or (view d registry mem) i 0
  pub same_head : (i : ℕ) → i < 16 → i ≢ 5 → i ≢ 12 → get_or after i 0 ≡ get_or mem i 0
  pub same_log : view d log after ≡ view d log mem
  pub same_queue : (q : ℕ) → q < d.queues → view d (queue q) after ≡ view d (queue q) mem

pub only_no_id : (d : Numbers) (mem : List ℕ) → OnlyIds d mem mem
only_no_id d mem = record {
  same_spaces = λ k l. refl;
  same_columns = λ i l. refl;
  same_head = λ i l n m. refl;
  same_log = refl;
  same_queue = λ q l. refl;
}

module _ (d : Numbers) (mem : List ℕ) (sound : SoundAt d mem) where
  smallest :
      0 < recycled_of mem
      → OnlyIds d mem (set (on_region d registry (first_taken d.places (recycled_of mem)) mem) 12 (recycled_of mem - 1))
  smallest some =
      let ch = one_less d mem sound some in
      record {
        same_spaces = ch.same_space;
        same_columns = λ i l.
            ap (λ ws. get_or ws i 0) ch.new_registry
            ∙ taken_columns d.places (recycled_of mem) (view d registry mem) some sound.recycled_fit
            (registry_words d mem sound.long_enough) i l;
        same_head = λ i l n k. ch.same_word i l k;
        same_log = ch.apart.same_log;
        same_queue = ch.apart.same_queue;
      }

  newest : next_of mem < 2 ^ 48 → OnlyIds d mem (set mem 5 (next_of mem + 1))
  newest more =
      let ch = one_more d mem sound more in
      record {
        same_spaces = ch.same_space;
        same_columns = λ i l. ap (λ ws. get_or ws i 0) ch.new_registry;
        same_head = λ i l n k. ch.same_word i l n;
        same_log = ch.apart.same_log;
        same_queue = ch.apart.same_queue;
      }

  pub take_only_ids : OnlyIds d mem (take_step d mem)
  take_only_ids = take_by_cases d mem (λ t after. OnlyIds d mem after) smallest (λ none more. newest more) (only_no_id d mem)
