-- A counted lookup changes nothing that a revocation reads: the revocation answers as it would have before the lookup.
use Rattle.std.proofs.Common.{Bool, true, false, List, ◌≡◌, refl, ap, ap₂, ◌∙◌, ℕ, ◌<◌, arith, eqb, ltb}
use Rattle.answers.specs.Answer.{LogFull, PidTableFull}
use Rattle.base.specs.Choose.{pick, when}
use Rattle.registry.specs.Words.{revoked}
use Rattle.revocation_steps.specs.Revocation.{free_queues}
use Rattle.revocation_steps.proofs.laws.CascadeSteps.{cascade_queues}
use Rattle.revocation_steps.proofs.laws.SameQueues.{same_free_queues, same_new_queues}
use Rattle.space.specs.Lookup.{counted}
use Rattle.space.proofs.laws.Kept.{lookup_keeps}
use Rattle.steps.specs.Replies.{Left, done, refusal, Reply}
use Rattle.steps.specs.Steps.{lookup_step, place_in}
use Rattle.steps.proofs.laws.OnlySpace.{OnlySpace, lookup_in_space}
use Rattle.steps.proofs.laws.Ready.{is_space}
use Rattle.steps.proofs.laws.Stepped.{space_change}
use Rattle.token.specs.Token.{id_of}
use Rattle.world.specs.Numbers.{registered_of, logged_of}
use Rattle.world.specs.Regions.{space, registry, queue, view}
use Rattle.world.specs.Sound.{states, SoundAt}
use Rattle.world.specs.Views.{view_other}
use Rattle.world.specs.declared.Numbers.{Numbers}
use Rattle.cascade.specs.Cascade.{revoking}
use Rattle.revocation_calls.specs.Revoking.{logging_token, revoking_token}
use Rattle.revocation_calls.proofs.laws.RevokingWays.{pairs_after, pairs_with}

-- ---- what a revocation answers, by its tests

abbrev cascade_reply : Bool → Bool → Bool → Reply
cascade_reply already full crowded =
    when already (done 0) (when full (refusal LogFull) (when crowded (refusal PidTableFull) (done 0)))

abbrev list_reply : Bool → Reply
list_reply full = when full (refusal LogFull) (done 0)

picked_reply : (b : Bool) (x y : Left Reply) → (pick b x y).reply ≡ pick b x.reply y.reply
picked_reply true x y = refl
picked_reply false x y = refl

reply_of : (b : Bool) (x y : Left Reply) → (when b x y).reply ≡ when b x.reply y.reply
unfolding when
reply_of b x y = picked_reply b x y

module _ (d : Numbers) (mem : List ℕ) where
  revoking_replies :
      (r time : ℕ) (listed : List ℕ)
      → (revoking d r time listed mem).reply
      ≡ cascade_reply (eqb (revoked (states d mem r)) 1) (ltb d.pairs (pairs_after d mem r))
      (ltb (free_queues d mem) (cascade_queues d mem r listed))
  unfolding revoking
  revoking_replies r time listed =
      reply_of _ _ _ ∙ ap (when _ (done 0)) (reply_of _ _ _ ∙ ap (when _ (refusal LogFull)) (reply_of _ _ _))

  listing_replies : (token : ℕ) → (logging_token d token mem).reply ≡ list_reply (ltb d.pairs (pairs_with d mem token))
  unfolding logging_token
  listing_replies token = reply_of _ _ _

  token_replies :
      (token time : ℕ) (listed : List ℕ)
      → (revoking_token d token time listed mem).reply
      ≡ pick (ltb (place_in d mem (id_of token)) (registered_of mem))
      (revoking d (place_in d mem (id_of token)) time listed mem).reply (logging_token d token mem).reply
  unfolding revoking_token
  token_replies token time listed = picked_reply (ltb (place_in d mem (id_of token)) (registered_of mem)) _ _

-- ---- after a lookup

module _ (d : Numbers) (mem : List ℕ) (sound : SoundAt d mem) (s : ℕ) (there : s < d.spaces) (key : ℕ) where
  abbrev after : List ℕ
  after = lookup_step d s key mem

  only : OnlySpace d s mem after
  only = (lookup_in_space d mem sound s there key).only

  pub same_queues : (q : ℕ) → q < d.queues → view d (queue q) (lookup_step d s key mem) ≡ view d (queue q) mem
  same_queues = only.same_queue

  pub same_registered : registered_of (lookup_step d s key mem) ≡ registered_of mem
  same_registered = only.same_head 11 (omega arith)

  same_logged : logged_of after ≡ logged_of mem
  same_logged = only.same_head 13 (omega arith)

  pub same_registry : view d registry (lookup_step d s key mem) ≡ view d registry mem
  unfolding lookup_step
  same_registry =
      let counts : List ℕ → List ℕ = λ sp. counted sp key in
      let change = space_change d s counts mem sound there (lookup_keeps d.most _ (is_space d mem sound s there) key) in
      view_other d (space s) counts mem change registry tt refl

  same_revoking : (r time : ℕ) (listed : List ℕ) → (revoking d r time listed after).reply ≡ (revoking d r time listed mem).reply
  same_revoking r time listed =
      rw (revoking_replies d after r time listed, revoking_replies d mem r time listed)
      (rw (
        same_registered,
        same_logged,
        same_registry,
        only.same_log,
        same_free_queues d mem after same_queues,
        same_new_queues d mem after same_queues listed,
      ) refl)

  same_listing : (token : ℕ) → (logging_token d token after).reply ≡ (logging_token d token mem).reply
  same_listing token =
      rw (listing_replies d after token, listing_replies d mem token) (rw (same_logged, only.same_log) refl)

  pub counted_answers :
      (token time : ℕ) (listed : List ℕ)
      → (revoking_token d token time listed (lookup_step d s key mem)).reply ≡ (revoking_token d token time listed mem).reply
  counted_answers token time listed =
      let r : ℕ = place_in d mem (id_of token) in
      rw (token_replies d after token time listed, token_replies d mem token time listed)
      (rw (same_registered, same_registry)
      (ap₂ (pick (ltb r (registered_of mem))) (same_revoking r time listed) (same_listing token)))
