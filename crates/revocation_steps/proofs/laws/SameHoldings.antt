-- The log, the queues, the epoch and the number of logged pairs may change, nothing else: what the spaces and the registry hold stays.
-- Every step of a revocation but the marking of the registry is of this form. The memory is kept where the log and the queues have their
-- rules.
use Rattle.std.proofs.Common.{◌≡◌, refl, ◌∙◌, ◌≢◌, List, ℕ, ◌≤◌, ◌<◌, arith, length, get_or, drop}
use Rattle.base.specs.Distinct.{Differ}
use Rattle.revocation.specs.Sound.{Pairs, SoundQueue, PidsDiffer}
use Rattle.world.specs.Numbers.{numbers_of, next_of, registered_of, recycled_of, logged_of, epoch_word}
use Rattle.world.specs.Regions.{space, registry, queue, length_for, view}
use Rattle.world.specs.Sound.{log_pairs, pids, lengths, SoundAt}
use Rattle.world.specs.declared.Numbers.{Numbers}
use Rattle.steps.proofs.laws.SpaceChanged.{same_spaces}
use Rattle.steps.proofs.laws.Kept.{Kept}

pub record SameHoldings (d : Numbers) (mem mem' : List ℕ) : Type 0 where
  pub numbers : numbers_of mem' ≡ numbers_of mem
  pub same_length : length mem' ≡ length mem
  pub past : drop (length_for d) mem' ≡ drop (length_for d) mem
  pub same_word : (j : ℕ) → j < 13 → j ≢ epoch_word → get_or mem' j 0 ≡ get_or mem j 0
  pub same_registry : view d registry mem' ≡ view d registry mem
  pub same_space : (s : ℕ) → s < d.spaces → view d (space s) mem' ≡ view d (space s) mem

pub holdings_refl : (d : Numbers) (mem : List ℕ) → SameHoldings d mem mem
holdings_refl d mem = record {
  numbers = refl;
  same_length = refl;
  past = refl;
  same_word = λ j l other. refl;
  same_registry = refl;
  same_space = λ s l. refl;
}

pub holdings_trans : (d : Numbers) (mem mem' mem'' : List ℕ) → SameHoldings d mem mem' → SameHoldings d mem' mem''
    → SameHoldings d mem mem''
holdings_trans d mem mem' mem'' h g = record {
  numbers = g.numbers ∙ h.numbers;
  same_length = g.same_length ∙ h.same_length;
  past = g.past ∙ h.past;
  same_word = λ j l other. g.same_word j l other ∙ h.same_word j l other;
  same_registry = g.same_registry ∙ h.same_registry;
  same_space = λ s l. g.same_space s l ∙ h.same_space s l;
}

-- ---- sound again

-- The rules of the log, and those of the queues.
pub record LogRules (d : Numbers) (mem : List ℕ) : Type 0 where
  pub fit : logged_of mem ≤ d.pairs
  pub coded : Pairs (logged_of mem) (log_pairs d mem)
  pub differ : Differ (logged_of mem) (log_pairs d mem)

pub record QueueRules (d : Numbers) (mem : List ℕ) : Type 0 where
  pub each : (q : ℕ) → q < d.queues → 0 < lengths d mem q → SoundQueue (view d (queue q) mem)
  pub differ : PidsDiffer d.queues (pids d mem) (lengths d mem)

module _ (d : Numbers) (mem : List ℕ) (sound : SoundAt d mem) where
  pub holdings_kept : (mem' : List ℕ) → SameHoldings d mem mem' → LogRules d mem' → QueueRules d mem' → Kept d mem mem'
  holdings_kept mem' same logs queues =
      let is_n : registered_of mem' ≡ registered_of mem = same.same_word 11 (omega arith) (λ e. omega arith) in
      let is_m : recycled_of mem' ≡ recycled_of mem = same.same_word 12 (omega arith) (λ e. omega arith) in
      let is_next : next_of mem' ≡ next_of mem = same.same_word 5 (omega arith) (λ e. omega arith) in
      let is_rg = same.same_registry in
      record {
        sound = record {
          in_range = sound.in_range;
          long_enough = rw same.same_length sound.long_enough;
          registered_fit = rw is_n sound.registered_fit;
          logged_fit = logs.fit;
          spaces = λ s l. rw (same.same_space s l) (sound.spaces s l);
          held = λ k l. rw (is_rg, same_spaces d mem mem' same.same_space) (sound.held k (rw is_n at l));
          ids_differ = rw (is_n, is_rg) sound.ids_differ;
          ids_issued = rw (is_n, is_rg, is_next) sound.ids_issued;
          next_low = rw is_next sound.next_low;
          next_high = rw is_next sound.next_high;
          recycled_ascend = rw (is_m, is_rg) sound.recycled_ascend;
          recycled_unregistered = rw (is_n, is_m, is_rg) sound.recycled_unregistered;
          recycled_issued = rw (is_m, is_rg, is_next) sound.recycled_issued;
          recycled_fit = rw is_m sound.recycled_fit;
          linked = rw (is_n, is_rg) sound.linked;
          parent_has_list = rw (is_n, is_rg) sound.parent_has_list;
          short = rw (is_n, is_rg) sound.short;
          cascaded = rw (is_n, is_rg) sound.cascaded;
          pairs_coded = logs.coded;
          pairs_differ = logs.differ;
          queues = queues.each;
          pids_differ = queues.differ;
        };
        numbers = same.numbers;
        same_length = same.same_length;
        past = same.past;
      }
