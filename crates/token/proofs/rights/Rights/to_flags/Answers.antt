-- `Rights::to_flags` meets its contract: after the test of right k the flags are the low k + 1 bits of the rights.
use Rattle.std.proofs.Common.{ℕ, ◌+◌, ◌%◌, ◌^◌, Bool, true, false, ◌≡◌, sym, ◌∙◌, mod-lt, zero-mul, one-mul, zero-add, arith, eqb-true, bit_or, eqb, pow_pos}
use Rattle.std.proofs.Math.Nat.{mod-one}
use Rattle.std.proofs.Math.Pow.{mod-pow-add}
use borrow.Author.Tests.{eqb-false}
use lib.Bits.{or_shifted_r}
use Rattle.token.specs.Bits.{bit}
use Rattle.token.specs.Rights.{holds}
use Rattle.token.specs.RightsLaws.{contains_one_right}
use Rattle.token.proofs.rights.Rights.to_flags.Goals as goal
use Rattle.token.proofs.rights.Rights.to_flags.Goals.{Joined-contains, Joined-contains-2, Joined-contains-3, else-contains, else-contains-2, else-contains-3, then-contains, then-contains-2, then-contains-3}

-- the test of right k, told by `contains`, with the low k bits in the flags before it
module _ (a k : ℕ) {f : ℕ} {on : Bool} (told : on ≡ holds a (2 ^ k)) (before : f ≡ a % 2 ^ k) where
  tested : eqb (bit a k) 1 ≡ on
  tested = sym (told ∙ contains_one_right a k)

  added : on ≡ true → bit_or f (2 ^ k) ≡ a % 2 ^ (1 + k)
  added test =
      let one : bit a k ≡ 1 = eqb-true (bit a k) 1 (tested ∙ test) in
      let joined = or_shifted_r 1 k f (rw before (mod-lt a (pow_pos k))) in
      (rw one-mul at joined) ∙ rw (mod-pow-add a 1 k, one, one-mul, before)

  passed : on ≡ false → f ≡ a % 2 ^ (1 + k)
  passed test =
      let none : bit a k ≡ 0 = omega (arith, eqb-false (bit a k) 1 (tested ∙ test)) in
      rw (mod-pow-add a 1 k, none, zero-mul, zero-add) before

first : (c : Joined-contains) → c.if-contains.flags ≡ c.args.self.0 % 2 ^ 1
first c =
    let a = c.args.self.0 in
    let told = c.contains.ensures in
    let before = sym (mod-one a) in
    elim c.if-contains.branch [
      | then-contains w ↦ w.flags-is ∙ added a 0 told before w.if-contains.true
      | else-contains w ↦ w.flags-is
          ∙ passed a 0 told before w.if-contains.false
    ]

second : (c : Joined-contains-2) → c.if-contains-2.flags ≡ c.args.self.0 % 2 ^ 2
second c =
    let a = c.args.self.0 in
    let told = c.contains-2.ensures in
    let before = first c.before.before in
    elim c.if-contains-2.branch [
      | then-contains-2 w ↦ w.flags-is
          ∙ added a 1 told before w.if-contains-2.true
      | else-contains-2 w ↦ w.flags-is ∙ passed a 1 told before w.if-contains-2.false
    ]

third : (c : Joined-contains-3) → c.if-contains-3.flags ≡ c.args.self.0 % 2 ^ 3
third c =
    let a = c.args.self.0 in
    let told = c.contains-3.ensures in
    let before = second c.before.before in
    elim c.if-contains-3.branch [
      | then-contains-3 w ↦ w.flags-is
          ∙ added a 2 told before w.if-contains-3.true
      | else-contains-3 w ↦ w.flags-is ∙ passed a 2 told before w.if-contains-3.false
    ]

pub returns-then-contains-4 : goal.returns-then-contains-4
returns-then-contains-4 c =
    let a = c.args.self.0 in
    added a 3 c.contains-4.ensures (third (goal.at.returns-then-contains-4 c).Joined-contains-3) c.if-contains-4.true

pub returns-else-contains-4 : goal.returns-else-contains-4
returns-else-contains-4 c =
    let a = c.args.self.0 in
    passed a 3 c.contains-4.ensures (third (goal.at.returns-else-contains-4 c).Joined-contains-3) c.if-contains-4.false
