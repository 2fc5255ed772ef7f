-- A token and its four fields determine each other: `new` refuses exactly the fields that do not fit, what it packs is
-- read back, every word is the token of its fields, and tokens with the same fields are the same.
use Rattle.std.specs.Prelude.{ℕ, ◌-◌, ◌^◌, ◌<◌, ◌⊎◌, ◌↔◌, ◌≡◌, Ok, Err}
use Rattle.std.proofs.Common.{inl, inr, ⊎_elim, sym, ap, ◌∙◌, arith, le-ltb, lt-ltb, shr-shr}
use Rattle.std.proofs.Math.Decide.{dec_lt}
use Rattle.std.proofs.Math.Logic.{by_cases}
use Rattle.std.proofs.Math.Pow.{shr_mod}
use Rattle.answers.specs.declared.Refusal.TheVariants.{BadField}
use Rattle.token.specs.declared.capability.CapabilityToken.{CapabilityToken}
use Rattle.token.specs.Token.{packed, made, id_of, generation_of, type_of, flags_of}

-- the fields that fit their places; a generation, a byte, always does
pub record Fit (id cap_type flags : ℕ) : Type 0 where
  pub id_fits : id < 2 ^ 48
  pub type_fits : cap_type < 2 ^ 4
  pub flags_fit : flags < 2 ^ 4

module _ (id g t f : ℕ) where
  pub new_packs_what_fits : Fit id t f → made id g t f ≡ Ok (record { 0 = packed id g t f })
  new_packs_what_fits h =
      simp (le-ltb (2 ^ 48 - 1) id (omega arith), le-ltb 15 t (omega arith), le-ltb 15 f (omega arith))

  fits_or_refused : Fit id t f ⊎ (made id g t f ≡ Err BadField)
  fits_or_refused =
      by_cases (dec_lt id (2 ^ 48))
      (λ hi. by_cases (dec_lt t (2 ^ 4))
      (λ ht. by_cases (dec_lt f (2 ^ 4))
      (λ hf. inl (record { id_fits = hi; type_fits = ht; flags_fit = hf }))
      (λ out. inr (simp (le-ltb (2 ^ 48 - 1) id (omega arith), le-ltb 15 t (omega arith), lt-ltb 15 f (omega arith)))))
      (λ out. inr (simp (le-ltb (2 ^ 48 - 1) id (omega arith), lt-ltb 15 t (omega arith)))))
      (λ out. inr (simp (lt-ltb (2 ^ 48 - 1) id (omega arith))))

  pub new_refuses_exactly_what_does_not_fit : (made id g t f ≡ Err BadField) ↔ (¬ Fit id t f)
  new_refuses_exactly_what_does_not_fit = (
    λ refused fit. let e = new_packs_what_fits fit in let z : ◌≡◌ {A = ℕ} 0 1 = cc in omega arith,
    λ out. ⊎_elim (λ fit. absurd (out fit)) (λ refused. refused) fits_or_refused,
  )

  module _ (k : CapabilityToken) (is_made : made id g t f ≡ Ok k) where
    pub new_packs : Fit id t f × (k.0 ≡ packed id g t f)
    new_packs =
        ⊎_elim (λ fit. let e = new_packs_what_fits fit in (fit, cc))
        (λ refused. absurd (let z : ◌≡◌ {A = ℕ} 0 1 = cc in omega arith))
        fits_or_refused

    module _ (g_fits : g < 2 ^ 8) where
      pub new_then_id : id_of k.0 ≡ id
      new_then_id = omega (arith, new_packs)

      pub new_then_generation : generation_of k.0 ≡ g
      new_then_generation = omega (arith, new_packs)

      pub new_then_type : type_of k.0 ≡ t
      new_then_type = omega (arith, new_packs)

      pub new_then_flags : flags_of k.0 ≡ f
      new_then_flags = omega (arith, new_packs)

module _ (w : ℕ) (w_Fits : w < 2 ^ 64) where
  pub a_word_is_its_fields : packed (id_of w) (generation_of w) (type_of w) (flags_of w) ≡ w
  a_word_is_its_fields = omega (arith, shr-shr w 48 8, shr-shr w 56 4, shr_mod 4 60 w_Fits)

  pub every_word_is_a_token : made (id_of w) (generation_of w) (type_of w) (flags_of w) ≡ Ok (record { 0 = w })
  every_word_is_a_token =
      new_packs_what_fits (id_of w) (generation_of w) (type_of w) (flags_of w) (omega arith)
      ∙ ap (λ x. Ok (record { 0 = x })) a_word_is_its_fields

pub token_by_fields : (v w : ℕ) → v < 2 ^ 64 → w < 2 ^ 64
    → id_of v ≡ id_of w → generation_of v ≡ generation_of w → type_of v ≡ type_of w → flags_of v ≡ flags_of w → v ≡ w
token_by_fields v w hv hw i g t f = sym (a_word_is_its_fields v hv) ∙ rw (i, g, t, f) (a_word_is_its_fields w hw)
