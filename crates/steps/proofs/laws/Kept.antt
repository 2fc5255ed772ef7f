-- What a step keeps: a sound memory sound, its numbers, its length and every word past the regions. And when it does: where a step leaves
-- the log and the queues alone, the memory is sound again by its spaces and the rules of its registry.
use Rattle.std.proofs.Common.{◌≡◌, ℕ, ◌+◌, ◌^◌, ◌<◌, ◌≤◌, false, ◌≢◌, List, length, get_or, drop, set, sym, refl, ap, ◌∙◌, arith, length-set, get_or-set_other}
use Rattle.registry.specs.Rules.{RegistryRules}
use Rattle.space.specs.Sound.{SoundSpace}
use Rattle.world.specs.Layout.{Valid, same}
use Rattle.world.specs.Numbers.{numbers_of, next_of, registered_of, recycled_of, logged_of, numbers_set}
use Rattle.world.specs.Regions.{Region, head, space, registry, log, queue, length_for, view, on_region}
use Rattle.world.specs.Sound.{spaces_with, pids, lengths, SoundAt, Sound}
use Rattle.world.specs.Views.{Change, set_head, set_changes, length_kept, view_other, past_kept, head_kept, numbers_kept}
use Rattle.world.specs.declared.Numbers.{Numbers}
use Rattle.steps.specs.Ready.{Ready}
use Rattle.steps.proofs.laws.Ready.{ready_at}

-- ---- kept

pub record Kept (d : Numbers) (mem mem' : List ℕ) : Type 0 where
  pub sound : SoundAt d mem'
  pub numbers : numbers_of mem' ≡ numbers_of mem
  pub same_length : length mem' ≡ length mem
  pub past : drop (length_for d) mem' ≡ drop (length_for d) mem

pub kept_refl : (d : Numbers) (mem : List ℕ) → SoundAt d mem → Kept d mem mem
kept_refl d mem sound = record { sound = sound; numbers = refl; same_length = refl; past = refl }

pub kept_trans : (d : Numbers) (mem mem' mem'' : List ℕ) → Kept d mem mem' → Kept d mem' mem'' → Kept d mem mem''
kept_trans d mem mem' mem'' h g = record {
  sound = g.sound;
  numbers = g.numbers ∙ h.numbers;
  same_length = g.same_length ∙ h.same_length;
  past = g.past ∙ h.past;
}

pub kept_ready : (d : Numbers) (mem mem' : List ℕ) → Kept d mem mem' → Ready d mem'
kept_ready d mem mem' kept = ready_at d mem' kept.sound

pub kept_sound : (mem mem' : List ℕ) → Kept (numbers_of mem) mem mem' → Sound mem'
kept_sound mem mem' kept = rw kept.numbers kept.sound

-- ---- the log and the queues left alone

pub record Apart (d : Numbers) (mem mem' : List ℕ) : Type 0 where
  pub numbers : numbers_of mem' ≡ numbers_of mem
  pub logged : logged_of mem' ≡ logged_of mem
  pub same_length : length mem' ≡ length mem
  pub past : drop (length_for d) mem' ≡ drop (length_for d) mem
  pub same_log : view d log mem' ≡ view d log mem
  pub same_queue : (q : ℕ) → q < d.queues → view d (queue q) mem' ≡ view d (queue q) mem

pub apart_trans : (d : Numbers) (mem mem' mem'' : List ℕ) → Apart d mem mem' → Apart d mem' mem'' → Apart d mem mem''
apart_trans d mem mem' mem'' h g = record {
  numbers = g.numbers ∙ h.numbers;
  logged = g.logged ∙ h.logged;
  same_length = g.same_length ∙ h.same_length;
  past = g.past ∙ h.past;
  same_log = g.same_log ∙ h.same_log;
  same_queue = λ q l. g.same_queue q l ∙ h.same_queue q l;
}

-- A change of one region, which is not the head, nor the log, nor a queue.
pub region_apart :
    (d : Numbers) (r : Region) (f : List ℕ → List ℕ) (mem : List ℕ) → Change d r f mem → same r head ≡ false → same r log ≡ false
    → ((q : ℕ) → same r (queue q) ≡ false) → Apart d mem (on_region d r f mem)
region_apart d r f mem ch no_head no_log no_queue = record {
  numbers = numbers_kept d r f mem ch no_head;
  logged = head_kept d r f mem ch no_head 13 (omega arith);
  same_length = length_kept d r f mem ch;
  past = past_kept d r f mem ch;
  same_log = view_other d r f mem ch log tt no_log;
  same_queue = λ q l. view_other d r f mem ch (queue q) l (no_queue q);
}

-- A word of the head set.
module _ (d : Numbers) (mem : List ℕ) (long : length_for d ≤ length mem) (i v : ℕ) (l : i < 16) where
  pub set_view : (r : Region) → Valid d r → same head r ≡ false → view d r (set mem i v) ≡ view d r mem
  set_view r valid differ =
      rw (set_head d mem i v l) (view_other d head (λ ws. set ws i v) mem (set_changes d head mem i v tt long) r valid differ)

  pub set_apart : 5 ≤ i → i ≢ 13 → Apart d mem (set mem i v)
  set_apart low no_logged = record {
    numbers = numbers_set mem i v low;
    logged = get_or-set_other mem i 13 v 0 (omega arith);
    same_length = length-set mem i v;
    past = rw (set_head d mem i v l) (past_kept d head (λ ws. set ws i v) mem (set_changes d head mem i v tt long));
    same_log = set_view log tt refl;
    same_queue = λ q u. set_view (queue q) u refl;
  }

-- ---- sound again

module _ (d : Numbers) (mem : List ℕ) (sound : SoundAt d mem) where
  pub registry_rules :
      RegistryRules d.places (registered_of mem) (recycled_of mem) (next_of mem) (spaces_with d mem) (view d registry mem)
  registry_rules = record {
    registered = record {
      differ = sound.ids_differ;
      issued = sound.ids_issued;
      linked = sound.linked;
      parent_has_list = sound.parent_has_list;
      short = sound.short;
      cascaded = sound.cascaded;
    };
    recycled = record {
      ascend = sound.recycled_ascend;
      unregistered = sound.recycled_unregistered;
      issued = sound.recycled_issued;
    };
    held = sound.held;
  }

  module _ (mem' : List ℕ) (apart : Apart d mem mem') where
    queue_length : (q : ℕ) → q < d.queues → lengths d mem' q ≡ lengths d mem q
    queue_length q l = ap (λ qu. get_or qu 2 0) (apart.same_queue q l)

    queue_pid : (q : ℕ) → q < d.queues → pids d mem' q ≡ pids d mem q
    queue_pid q l = ap (λ qu. get_or qu 0 0) (apart.same_queue q l)

    -- The memory is sound by the new numbers of registered and recycled ids, the new next id and the new registry.
    pub sound_again :
        (n m next : ℕ) (rg : List ℕ) → registered_of mem' ≡ n → recycled_of mem' ≡ m → next_of mem' ≡ next → view d registry mem' ≡ rg
        → n ≤ d.places → m ≤ d.places + 1 → 1 ≤ next → next ≤ 2 ^ 48
        → ((s : ℕ) → s < d.spaces → SoundSpace d.most (view d (space s) mem'))
        → RegistryRules d.places n m next (spaces_with d mem') rg → Kept d mem mem'
    sound_again n m next rg is_n is_m is_next is_rg fit recycled_fit low high spaces rules = record {
      sound = record {
        in_range = sound.in_range;
        long_enough = rw apart.same_length sound.long_enough;
        registered_fit = rw is_n fit;
        logged_fit = rw apart.logged sound.logged_fit;
        spaces = spaces;
        held = rw (is_n, is_rg) rules.held;
        ids_differ = rw (is_n, is_rg) rules.registered.differ;
        ids_issued = rw (is_n, is_rg, is_next) rules.registered.issued;
        next_low = rw is_next low;
        next_high = rw is_next high;
        recycled_ascend = rw (is_m, is_rg) rules.recycled.ascend;
        recycled_unregistered = rw (is_n, is_m, is_rg) rules.recycled.unregistered;
        recycled_issued = rw (is_m, is_rg, is_next) rules.recycled.issued;
        recycled_fit = rw is_m recycled_fit;
        linked = rw (is_n, is_rg) rules.registered.linked;
        parent_has_list = rw (is_n, is_rg) rules.registered.parent_has_list;
        short = rw (is_n, is_rg) rules.registered.short;
        cascaded = rw (is_n, is_rg) rules.registered.cascaded;
        pairs_coded = rw (apart.logged, apart.same_log) sound.pairs_coded;
        pairs_differ = rw (apart.logged, apart.same_log) sound.pairs_differ;
        queues = λ q l some. rw (apart.same_queue q l) (sound.queues q l (rw (queue_length q l) at some));
        pids_differ = λ j l i u some some' e.
            let k : i < d.queues = omega arith in
            sound.pids_differ j l i u (rw (queue_length i k) at some) (rw (queue_length j l) at some')
            (sym (queue_pid i k) ∙ e ∙ queue_pid j l);
      };
      numbers = apart.numbers;
      same_length = apart.same_length;
      past = apart.past;
    }
