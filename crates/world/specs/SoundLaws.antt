-- The test of a memory is the rules: it is true exactly when every rule holds, on memory of every length.
use Rattle.std.specs.Prelude.{◌≡◌, ◌↔◌, true, List, ℕ, ◌+◌, ◌^◌, ◌≤◌, ◌<◌, length}
use Rattle.std.proofs.Math.Logic.Iff
use Rattle.base.specs.Distinct.{differ_exactly}
use Rattle.base.specs.Exactly.{both_exactly, leb_exactly, all_exactly}
use Rattle.registry.specs.Sound.{registry_test}
use Rattle.registry.specs.SoundLaws.{issued_exactly, ascend_exactly, unregistered_exactly, linked_exactly, has_list_exactly, short_exactly, cascaded_exactly, held_exactly}
use Rattle.revocation.specs.Sound.{log_test, SoundQueue, PidsDiffer}
use Rattle.revocation.specs.SoundLaws.{pairs_exactly, queue_exactly, pids_exactly}
use Rattle.space.specs.Sound.{SoundSpace}
use Rattle.space.proofs.laws.Tests.{space_exactly}
use Rattle.world.specs.Numbers.{numbers_of, next_of, registered_of, recycled_of, logged_of, InRange, in_range_test, in_range, in_range_passes}
use Rattle.world.specs.Regions.{space, queue, length_for, view}
use Rattle.world.specs.Sound.{ids, states, links, recycled, log_pairs, pids, lengths, spaces_with, Sound, counts_test, head_test, spaces_test, holders_test, ids_test, logged_test, queues_test, sound_test}
use Rattle.world.specs.declared.Numbers.{Numbers}

-- What the head's words say, which all that follows reads by.
pub record Headed (d : Numbers) (mem : List ℕ) : Type 0 where
  pub in_range : InRange d
  pub long_enough : length_for d ≤ length mem
  pub registered_fit : registered_of mem ≤ d.places
  pub logged_fit : logged_of mem ≤ d.pairs
  pub next_low : 1 ≤ next_of mem
  pub next_high : next_of mem ≤ 2 ^ 48
  pub recycled_fit : recycled_of mem ≤ d.places + 1

range_exactly : (d : Numbers) → (in_range_test d ≡ true) ↔ InRange d
range_exactly d = (in_range d, in_range_passes d)

pub head_exactly : (d : Numbers) (mem : List ℕ) → (head_test d mem ≡ true) ↔ Headed d mem
unfolding head_test counts_test
head_exactly d mem =
    simp (both_exactly, leb_exactly, range_exactly) (
      λ (range, (long, (registered, (logged, (low, (high, recycled)))))).
          record {
            in_range = range;
            long_enough = long;
            registered_fit = registered;
            logged_fit = logged;
            next_low = low;
            next_high = high;
            recycled_fit = recycled;
          },
      λ h. (h.in_range, (h.long_enough, (h.registered_fit, (h.logged_fit, (h.next_low, (h.next_high, h.recycled_fit)))))),
    )

pub spaces_exactly : (d : Numbers) (mem : List ℕ) → (spaces_test d mem ≡ true)
    ↔ ((s : ℕ) → s < d.spaces → SoundSpace d.most (view d (space s) mem))
unfolding spaces_test
spaces_exactly d mem = simp (all_exactly, space_exactly) Iff.rfl

pub queues_exactly : (d : Numbers) (mem : List ℕ) → (queues_test d mem ≡ true)
    ↔ (((q : ℕ) → q < d.queues → 0 < lengths d mem q → SoundQueue (view d (queue q) mem))
    × PidsDiffer d.queues (pids d mem) (lengths d mem))
unfolding queues_test
queues_exactly d mem = simp (both_exactly, pids_exactly d.queues (pids d mem) (lengths d mem), all_exactly, queue_exactly) Iff.rfl

pub sound_exactly : (mem : List ℕ) → (sound_test mem ≡ true) ↔ Sound mem
unfolding sound_test holders_test ids_test registry_test logged_test log_test
sound_exactly mem =
    let d = numbers_of mem in
    let n = registered_of mem in
    let m = recycled_of mem in
    simp (
      both_exactly,
      head_exactly d mem,
      spaces_exactly d mem,
      held_exactly n (ids d mem) (states d mem) (spaces_with d mem),
      differ_exactly n (ids d mem),
      issued_exactly n (ids d mem) (next_of mem),
      ascend_exactly m (recycled d mem),
      unregistered_exactly m (recycled d mem) n (ids d mem),
      issued_exactly m (recycled d mem) (next_of mem),
      linked_exactly n (links d mem),
      has_list_exactly n (links d mem) (states d mem),
      short_exactly n (links d mem),
      cascaded_exactly n (links d mem) (states d mem),
      pairs_exactly (logged_of mem) (log_pairs d mem),
      differ_exactly (logged_of mem) (log_pairs d mem),
      queues_exactly d mem,
    ) (
      λ (
        h,
        (
          ((differ, (issued, (ascend, (unregistered, (freed, (linked, (parent_has_list, (short, cascaded)))))))), (spaces, held)),
          ((coded, pairs), (queues, pids)),
        ),
      ).
          record {
            in_range = h.in_range;
            long_enough = h.long_enough;
            registered_fit = h.registered_fit;
            logged_fit = h.logged_fit;
            spaces = spaces;
            held = held;
            ids_differ = differ;
            ids_issued = issued;
            next_low = h.next_low;
            next_high = h.next_high;
            recycled_ascend = ascend;
            recycled_unregistered = unregistered;
            recycled_issued = freed;
            recycled_fit = h.recycled_fit;
            linked = linked;
            parent_has_list = parent_has_list;
            short = short;
            cascaded = cascaded;
            pairs_coded = coded;
            pairs_differ = pairs;
            queues = queues;
            pids_differ = pids;
          },
      λ s. (
        record {
          in_range = s.in_range;
          long_enough = s.long_enough;
          registered_fit = s.registered_fit;
          logged_fit = s.logged_fit;
          next_low = s.next_low;
          next_high = s.next_high;
          recycled_fit = s.recycled_fit;
        },
        (
          (
            (
              s.ids_differ,
              (
                s.ids_issued,
                (
                  s.recycled_ascend,
                  (s.recycled_unregistered, (s.recycled_issued, (s.linked, (s.parent_has_list, (s.short, s.cascaded))))),
                ),
              ),
            ),
            (s.spaces, s.held),
          ),
          ((s.pairs_coded, s.pairs_differ), (s.queues, s.pids_differ)),
        ),
      ),
    )
