-- Pairs join the log: of the memory only the log and the number of its pairs change, and a sound memory is kept where the pairs are coded,
-- differ and are not logged yet.
use Rattle.std.proofs.Common.{◌≡◌, refl, ap, ◌∙◌, ◌≢◌, false, List, ℕ, ◌+◌, ◌%◌, ◌^◌, ◌≤◌, ◌<◌, arith, length, get_or, set, length-set, get_or-set_same, get_or-set_other}
use Rattle.base.specs.Members.{In, Once}
use Rattle.revocation.specs.Log.{log_has, appended}
use Rattle.revocation.specs.LogLaws.{length_appended, pairs_appended, differ_appended}
use Rattle.revocation.specs.Sound.{Pairs}
use Rattle.revocation.specs.Words.{pair_at}
use Rattle.world.specs.Layout.{Valid, same}
use Rattle.world.specs.Numbers.{logged_of, epoch_of, epoch_word, numbers_set}
use Rattle.world.specs.Regions.{Region, head, space, registry, log, queue, length_for, view, on_region}
use Rattle.world.specs.Sound.{SoundAt}
use Rattle.world.specs.Views.{Change, set_head, set_changes, length_view, length_kept, view_same, view_other, past_kept, head_kept, numbers_kept}
use Rattle.world.specs.declared.Numbers.{Numbers}
use Rattle.revocation_steps.specs.Revocation.{log_step}
use Rattle.steps.proofs.laws.Ready.{head_fits}
use Rattle.steps.specs.Steps.{add_step}
use Rattle.steps.proofs.laws.Kept.{Kept, set_view}
use Rattle.steps.proofs.laws.RegistrySteps.{add_step_changes}
use Rattle.revocation_steps.proofs.laws.SameHoldings.{SameHoldings, holdings_trans, holdings_kept}

-- ---- pairs join the log

-- What is left once pairs have joined the log and the epoch has counted them, `count` in all.
pub record PairsJoined (d : Numbers) (pairs : List ℕ) (count : ℕ) (mem after : List ℕ) : Type 0 where
  pub holdings : SameHoldings d mem after
  pub logged : logged_of after ≡ logged_of mem + length pairs
  pub new_log : view d log after ≡ appended (logged_of mem) pairs (view d log mem)
  pub same_queue : (q : ℕ) → q < d.queues → view d (queue q) after ≡ view d (queue q) mem
  pub epoch : epoch_of after ≡ (epoch_of mem + count) % 2 ^ 64
  pub others : (j : ℕ) → j < 16 → j ≢ epoch_word → j ≢ 13 → get_or after j 0 ≡ get_or mem j 0

module _ (d : Numbers) (mem : List ℕ) (enough : length_for d ≤ length mem) (pairs : List ℕ)
    (fits : logged_of mem + length pairs ≤ d.pairs)
  where
    abbrev n : ℕ
    n = logged_of mem

    abbrev lg : List ℕ
    lg = view d log mem

    abbrev between : List ℕ
    between = on_region d log (appended n pairs) mem

    room : n + length pairs ≤ length lg
    room = omega (arith, length_view d log mem tt enough)

    in_log : Change d log (appended n pairs) mem
    in_log = record { valid = tt; long = enough; kept = length_appended n pairs lg room }

    long : length_for d ≤ length between
    long = rw (length_kept d log (appended n pairs) mem in_log) enough

    -- Any region but the head and the log stays.
    other_view : (r : Region) → Valid d r → same head r ≡ false → same log r ≡ false → view d r (log_step d pairs mem) ≡ view d r mem
    unfolding log_step
    other_view r valid no_head no_log =
        set_view d between long 13 (n + length pairs) (omega arith) r valid no_head
        ∙ view_other d log (appended n pairs) mem in_log r valid no_log

    pub log_step_word : (j : ℕ) → j < 16 → j ≢ 13 → get_or (log_step d pairs mem) j 0 ≡ get_or mem j 0
    unfolding log_step
    log_step_word j l other =
        get_or-set_other between 13 j (n + length pairs) 0 other ∙ head_kept d log (appended n pairs) mem in_log refl j l

    pub log_step_holdings : SameHoldings d mem (log_step d pairs mem)
    unfolding log_step
    log_step_holdings = record {
      numbers = numbers_set between 13 (n + length pairs) (omega arith) ∙ numbers_kept d log (appended n pairs) mem in_log refl;
      same_length = length-set between 13 (n + length pairs) ∙ length_kept d log (appended n pairs) mem in_log;
      past =
          rw (set_head d between 13 (n + length pairs) (omega arith))
          (past_kept d head (λ ws. set ws 13 (n + length pairs)) between (set_changes d head between 13 (n + length pairs) tt long)
          ∙ past_kept d log (appended n pairs) mem in_log);
      same_word = λ j l other. log_step_word j (omega arith) (λ e. omega arith);
      same_registry = other_view registry tt refl refl;
      same_space = λ s l. other_view (space s) l refl refl;
    }

    pub log_step_queue : (q : ℕ) → q < d.queues → view d (queue q) (log_step d pairs mem) ≡ view d (queue q) mem
    log_step_queue q l = other_view (queue q) l refl refl

    pub log_step_logged : logged_of (log_step d pairs mem) ≡ logged_of mem + length pairs
    unfolding log_step
    log_step_logged = get_or-set_same between 13 (n + length pairs) 0 (omega (arith, long, head_fits d))

    pub log_step_log : view d log (log_step d pairs mem) ≡ appended (logged_of mem) pairs (view d log mem)
    unfolding log_step
    log_step_log =
        set_view d between long 13 (n + length pairs) (omega arith) log tt refl ∙ view_same d log (appended n pairs) mem in_log

    pub join_step : (count : ℕ) → PairsJoined d pairs count mem (add_step epoch_word count (log_step d pairs mem))
    join_step count =
        let enough' : length_for d ≤ length (log_step d pairs mem) = rw log_step_holdings.same_length enough in
        let counted = add_step_changes d (log_step d pairs mem) enough' epoch_word count (omega arith) (omega arith) in
        record {
          holdings = holdings_trans d mem (log_step d pairs mem) _ log_step_holdings (record {
            numbers = counted.apart.numbers;
            same_length = counted.apart.same_length;
            past = counted.apart.past;
            same_word = λ j l other. counted.same_word j (omega arith) other;
            same_registry = counted.new_registry;
            same_space = counted.same_space;
          });
          logged = counted.apart.logged ∙ log_step_logged;
          new_log = counted.apart.same_log ∙ log_step_log;
          same_queue = λ q l. counted.apart.same_queue q l ∙ log_step_queue q l;
          epoch =
              counted.new_word
              ∙ ap (λ epoch. (epoch + count) % 2 ^ 64) (log_step_word epoch_word (omega arith) (λ e. omega arith));
          others = λ j l no_epoch no_logged. counted.same_word j l no_epoch ∙ log_step_word j l no_logged;
        }

module _ (d : Numbers) (mem : List ℕ) (sound : SoundAt d mem) (pairs : List ℕ) (fits : logged_of mem + length pairs ≤ d.pairs) where
  same_queue : (q : ℕ) → q < d.queues → view d (queue q) (log_step d pairs mem) ≡ view d (queue q) mem
  same_queue = log_step_queue d mem sound.long_enough pairs fits

  pub log_step_kept :
      Pairs (length pairs) (pair_at pairs) → Once pairs
      → ((pair : ℕ) → In pairs pair → log_has (logged_of mem) (view d log mem) pair ≡ false) → Kept d mem (log_step d pairs mem)
  log_step_kept coded differ absent =
      let logged = log_step_logged d mem sound.long_enough pairs fits in
      let new_log = log_step_log d mem sound.long_enough pairs fits in
      let space_left = room d mem sound.long_enough pairs fits in
      holdings_kept d mem sound (log_step d pairs mem) (log_step_holdings d mem sound.long_enough pairs fits)
      (record {
        fit = rw logged fits;
        coded = rw (logged, new_log) (pairs_appended _ pairs (view d log mem) space_left sound.pairs_coded coded);
        differ = rw (logged, new_log) (differ_appended _ pairs (view d log mem) space_left sound.pairs_differ differ absent);
      })
      (record {
        each = λ q l some.
            rw (same_queue q l) (sound.queues q l (rw (same_queue q l) at some));
        differ = λ j l i u a b e.
            let first_queue = same_queue i (omega arith) in
            let second_queue = same_queue j l in
            sound.pids_differ j l i u (rw first_queue at a) (rw second_queue at b) (rw (first_queue, second_queue) at e);
      })
