-- What every word is after an opening, region by region.
use Rattle.std.specs.Prelude.{false, List, ◌≡◌, ℕ, ◌≤◌, ◌<◌, length, get_or, drop, refl, set}
use Rattle.std.proofs.Common.{sym, ap, ◌∙◌, arith, ne_eqb, length-set, length-drop}
use Rattle.world.specs.Each.{Changes, each_length, each_at, each_other, each_past}
use Rattle.world.specs.Layout.{Valid, same}
use Rattle.world.specs.Numbers.{numbers_of, numbers_by_words}
use Rattle.world.specs.Open.{open_head, open_space, open_spaces, opened}
use Rattle.world.specs.Regions.{Region, head, space, registry, log, queue, width_of, length_for, view, on_region}
use Rattle.world.specs.Views.{Change, length_view, length_kept, view_same, view_other, past_kept, head_word}
use Rattle.world.specs.declared.Numbers.{Numbers}

-- What an opening makes of the words of a region.
abbrev pub open_region : Numbers → List ℕ → Region → List ℕ → List ℕ
open_region d quotas head ws = open_head d
open_region d quotas (space s) ws = open_space (get_or quotas s 0) ws
open_region d quotas registry ws = ws
open_region d quotas log ws = ws
open_region d quotas (queue q) ws = set ws 2 0

module _ (d : Numbers) (quotas : List ℕ) where
  spaces_open : Changes d space (λ s. open_space (get_or quotas s 0)) d.spaces
  unfolding open_space width_of
  spaces_open = record {
    valid = λ s l. l;
    differ = ne_eqb;
    keeps = λ s l ws w. simp length-drop (omega arith);
  }

  queues_open : Changes d queue (λ q qu. set qu 2 0) d.queues
  queues_open = record { valid = λ q l. l; differ = ne_eqb; keeps = λ q l ws w. length-set ws 2 0 }

  module _ (mem : List ℕ) (long : length_for d ≤ length mem) where
    head_opens : Change d head (λ hd. open_head d) mem
    unfolding open_head
    head_opens = record { valid = tt; long = long; kept = sym (length_view d head mem tt long) }

    -- The memory with the head written, and then with the spaces opened.
    abbrev headed : List ℕ
    headed = on_region d head (λ hd. open_head d) mem

    abbrev spaced : List ℕ
    spaced = open_spaces d quotas d.spaces headed

    headed_length : length headed ≡ length mem
    headed_length = length_kept d head (λ hd. open_head d) mem head_opens

    spaced_length : length spaced ≡ length mem
    spaced_length = each_length d space _ headed (rw headed_length long) d.spaces spaces_open ∙ headed_length

    -- A region that a step does not write.
    not_queue : (r : Region) → Valid d r → ((q : ℕ) → same (queue q) r ≡ false) → view d r (opened d quotas mem) ≡ view d r spaced
    unfolding opened
    not_queue r v none = each_other d queue _ spaced (rw spaced_length long) r v d.queues queues_open (λ q l. none q)

    not_space : (r : Region) → Valid d r → ((s : ℕ) → same (space s) r ≡ false) → view d r spaced ≡ view d r headed
    not_space r v none = each_other d space _ headed (rw headed_length long) r v d.spaces spaces_open (λ s l. none s)

    not_head : (r : Region) → Valid d r → same head r ≡ false → view d r headed ≡ view d r mem
    not_head r v differ = view_other d head (λ hd. open_head d) mem head_opens r v differ

    pub opened_view : (r : Region) → Valid d r → view d r (opened d quotas mem) ≡ open_region d quotas r (view d r mem)
    unfolding opened
    opened_view head v = not_queue head v (λ q. refl) ∙ not_space head v (λ s. refl) ∙ view_same d head (λ hd. open_head d) mem head_opens
    opened_view (space s) v =
        not_queue (space s) v (λ q. refl)
        ∙ each_at d space _ headed (rw headed_length long) d.spaces spaces_open s v
        ∙ ap (open_space (get_or quotas s 0)) (not_head (space s) v refl)
    opened_view registry v = not_queue registry v (λ q. refl) ∙ not_space registry v (λ s. refl) ∙ not_head registry v refl
    opened_view log v = not_queue log v (λ q. refl) ∙ not_space log v (λ s. refl) ∙ not_head log v refl
    opened_view (queue q) v =
        each_at d queue _ spaced (rw spaced_length long) d.queues queues_open q v
        ∙ ap (λ ws. set ws 2 0) (not_space (queue q) v (λ s. refl) ∙ not_head (queue q) v refl)

    pub opened_length : length (opened d quotas mem) ≡ length mem
    unfolding opened
    opened_length = each_length d queue _ spaced (rw spaced_length long) d.queues queues_open ∙ spaced_length

    pub opened_past : drop (length_for d) (opened d quotas mem) ≡ drop (length_for d) mem
    unfolding opened
    opened_past =
        each_past d queue _ spaced (rw spaced_length long) d.queues queues_open
        ∙ each_past d space _ headed (rw headed_length long) d.spaces spaces_open
        ∙ past_kept d head (λ hd. open_head d) mem head_opens

    pub opened_word : (i : ℕ) → i < 16 → get_or (opened d quotas mem) i 0 ≡ get_or (open_head d) i 0
    opened_word i l = sym (head_word d (opened d quotas mem) i l) ∙ ap (λ ws. get_or ws i 0) (opened_view head tt)

    pub opened_numbers : numbers_of (opened d quotas mem) ≡ d
    unfolding open_head
    opened_numbers = numbers_by_words (open_head d) (opened d quotas mem) (λ i l. opened_word i (omega arith))
