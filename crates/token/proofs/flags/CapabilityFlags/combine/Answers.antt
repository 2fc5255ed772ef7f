use Rattle.std.proofs.Common.{ℕ, ◌+◌, ◌^◌, ◌≤◌, ◌<◌, List, ◌≡◌, sym, Result, Ok, Err, refl, arith, rules, bit_or, length, get_or, drop, drop_of_length-le}
use Rattle.std.proofs.lemmas.Grind.{common_steps}
use lib.Bits.{or_zero_r}
use Rattle.base.specs.Rest.{drop_next}
use Rattle.answers.specs.declared.Refusal.{Refusal}
use Rattle.answers.specs.declared.Refusal.TheVariants.{BadField}
use Rattle.token.specs.declared.flags.CapabilityFlags.{CapabilityFlags}
use Rattle.token.specs.BitsLaws.{or_assoc}
use Rattle.token.specs.Flags.{bit_of, named, combined}
use Rattle.token.specs.FlagsLaws.{named_by_its_number}
use Rattle.token.proofs.flags.CapabilityFlags.combine.Invariants.{from}
use Rattle.token.proofs.flags.CapabilityFlags.combine.Goals as goal

starts : (ns : List ℕ) → from 0 (drop 0 ns) ≡ combined ns
unfolding from
starts ns = refl

goes : (ns : List ℕ) (flags i n : ℕ) (r : Result ℕ Refusal) (perm : CapabilityFlags)
    → i < length ns → Ok perm ≡ named (get_or ns i 0) → n ≡ 2 ^ bit_of perm
    → from flags (drop i ns) ≡ r → from (bit_or flags n) (drop (i + 1) ns) ≡ r
unfolding from
goes ns flags i n r perm h told number left =
    rw (or_assoc, number, ← named_by_its_number (get_or ns i 0) perm (sym told)) (rw (drop_next ns i h, ← told) at left)

refuses : (ns : List ℕ) (flags i : ℕ) (r : Result ℕ Refusal) (why : Refusal)
    → i < length ns → Err why ≡ named (get_or ns i 0) → from flags (drop i ns) ≡ r → Err BadField ≡ r
unfolding from
refuses ns flags i r why h told left = rw (drop_next ns i h, ← told) at left

ends : (ns : List ℕ) (flags i : ℕ) (r : Result ℕ Refusal) → length ns ≤ i → from flags (drop i ns) ≡ r → Ok flags ≡ r
unfolding from
ends ns flags i r h left = rw (drop_of_length-le ns h, or_zero_r flags) at left

ruleset laws = (rules, starts, goes, refuses, ends)

pub loop-number-init : goal.loop-number-init
loop-number-init c = search laws

pub loop-number-preserved : goal.loop-number-preserved
loop-number-preserved c =
    let told : Ok c.in_ok-perm.perm ≡ named (get_or c.args.numbers.now c.loop-number.number-index 0) = c.in_ok-perm.ensures in
    search laws

pub returns : goal.returns
returns c = search laws

pub returns-in_err-perm : goal.returns-in_err-perm
returns-in_err-perm c =
    let told : Err c.in_err-perm.field-0.0 ≡ named (get_or c.args.numbers.now c.loop-number.number-index 0) = c.in_err-perm.ensures in
    let out : c.from_residual.result ≡ Err c.in_err-perm.field-0.0 = search rules in
    let bad : c.in_err-perm.field-0.0 ≡ BadField = grind (arith, common_steps) in
    let all : Err BadField ≡ combined c.args.numbers.now = search laws in
    cc
