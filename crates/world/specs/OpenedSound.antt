-- What an opening leaves is sound: each table has 0 slots, nothing is registered, recycled or logged, and every queue is free.
use Rattle.std.specs.Prelude.{true, List, ◌≡◌, refl, ℕ, ◌≤◌, ◌<◌, length, get_or}
use Rattle.std.proofs.Common.{ap, ◌∙◌, arith, get_or-set_same}
use Rattle.base.specs.SumLaws.{sum-zero}
use Rattle.table.specs.Sound.{no_slots}
use Rattle.space.specs.Sound.{SoundSpace}
use Rattle.world.specs.Open.{open_head, open_space, opened, Good, record_test, good}
use Rattle.world.specs.Opened.{opened_view, opened_length, opened_word, opened_numbers}
use Rattle.world.specs.Regions.{space, queue, length_for, view}
use Rattle.world.specs.Sound.{SoundAt, Sound, lengths}
use Rattle.world.specs.Views.{queue_words}
use Rattle.world.specs.declared.Numbers.{Numbers}

-- A space with its quota and nothing in it.
empty_space : (most quota : ℕ) (sp : List ℕ) → quota ≤ most → SoundSpace most (open_space quota sp)
unfolding open_space
empty_space most quota sp l =
    record {
      coded = omega arith;
      quota = l;
      table = record {
        coded = λ i u. absurd (omega arith);
        capacity = no_slots refl;
        live_agrees = sum-zero _;
        removed_agrees = sum-zero _;
        room = omega arith;
        unused = λ e. refl;
        within = omega arith;
        differ = λ i j u. absurd (omega arith);
        met = λ i u. absurd (omega arith);
      };
    }

module _ (d : Numbers) (quotas mem : List ℕ) (long : length_for d ≤ length mem) where
  abbrev new : List ℕ
  new = opened d quotas mem

  free : (q : ℕ) → q < d.queues → lengths d new q ≡ 0
  free q l =
      ap (λ qu. get_or qu 2 0) (opened_view d quotas mem long (queue q) l)
      ∙ get_or-set_same (view d (queue q) mem) 2 0 0 (omega (arith, queue_words d mem long q l))

  sound_at : Good d quotas → SoundAt d new
  unfolding open_head
  sound_at ok =
      let next : get_or new 5 0 ≡ 1 = opened_word d quotas mem long 5 (omega arith) in
      let registered : get_or new 11 0 ≡ 0 = opened_word d quotas mem long 11 (omega arith) in
      let recycled : get_or new 12 0 ≡ 0 = opened_word d quotas mem long 12 (omega arith) in
      let logged : get_or new 13 0 ≡ 0 = opened_word d quotas mem long 13 (omega arith) in
      record {
        in_range = ok.in_range;
        long_enough = rw opened_length long;
        registered_fit = omega arith;
        logged_fit = omega arith;
        spaces = λ s l. rw (opened_view d quotas mem long (space s) l)
            (empty_space d.most (get_or quotas s 0) (view d (space s) mem) (ok.quota s l));
        held = λ k l. absurd (omega arith);
        ids_differ = λ j l. absurd (omega arith);
        ids_issued = λ k l. absurd (omega arith);
        next_low = omega arith;
        next_high = omega arith;
        recycled_ascend = λ k l. absurd (omega arith);
        recycled_unregistered = λ j l. absurd (omega arith);
        recycled_issued = λ k l. absurd (omega arith);
        recycled_fit = omega arith;
        linked = λ k l. absurd (omega arith);
        parent_has_list = λ k l. absurd (omega arith);
        short = λ p l. absurd (omega arith);
        cascaded = λ k l. absurd (omega arith);
        pairs_coded = λ k l. absurd (omega arith);
        pairs_differ = λ j l. absurd (omega arith);
        queues = λ q l u. absurd (omega (arith, free q l));
        pids_differ = λ j l i u v. absurd (omega (arith, free i (omega arith)));
      }

  pub opened_sound : record_test d quotas ≡ true → Sound new
  opened_sound h = rw (opened_numbers d quotas mem long) (sound_at (good d quotas h))
