-- What the definitions of Flags.antt mean: a flag says that the rights hold its right, a permission and its number
-- determine each other, and combined flags are the least that contain each of those given.
use Rattle.std.specs.Prelude.{ℕ, ◌^◌, ◌≤◌, ◌<◌, Bool, true, false, ◌↔◌, ◌≡◌, refl, eqb, List, [], ◌∷◌, Ok, Err}
use Rattle.std.proofs.Common.{zero-le, sym, ap, ◌∙◌, arith, eqb-true, lit<}
use mathlib.Core.List.{Memᴰ}
use Rattle.base.specs.Choose.{pick, both_left, both_right, both_make}
use Rattle.answers.specs.declared.Refusal.TheVariants.{BadField}
use Rattle.token.specs.declared.flags.CapabilityFlags.{CapabilityFlags}
use Rattle.token.specs.declared.flags.CapabilityFlags.TheVariants.{Read, Write, Execute, Grant}
use Rattle.token.specs.Bits.{bit}
use Rattle.token.specs.BitsLaws.{bit_of_or, bit_above}
use Rattle.token.specs.Flags.{bit_of, has_flag, named, is_flag, all_flags, union_of}
use Rattle.token.specs.Rights.{holds, to_flags}
use Rattle.token.specs.RightsLaws.{contains_one_right, flags_are_low_four_bits}

pub one_of_four : (perm : CapabilityFlags) → bit_of perm < 4
one_of_four Read = lit< tt
one_of_four Write = lit< tt
one_of_four Execute = lit< tt
one_of_four Grant = lit< tt

pub flags_say_the_rights : (a : ℕ) (perm : CapabilityFlags) → has_flag (to_flags a) perm ≡ holds a (2 ^ bit_of perm)
flags_say_the_rights a perm =
    let kept = flags_are_low_four_bits a (bit_of perm) (one_of_four perm) in
    ap (λ b. eqb b 1) kept ∙ sym (contains_one_right a (bit_of perm))

pub a_number_names_its_permission : (perm : CapabilityFlags) → named (2 ^ bit_of perm) ≡ Ok perm
a_number_names_its_permission Read = refl
a_number_names_its_permission Write = refl
a_number_names_its_permission Execute = refl
a_number_names_its_permission Grant = refl

pub named_by_its_number : (n : ℕ) (perm : CapabilityFlags) → named n ≡ Ok perm → n ≡ 2 ^ bit_of perm
named_by_its_number n perm = go (eqb n 1) (eqb n 2) (eqb n 4) (eqb n 8) refl refl refl refl
  where
    go : (r w x g : Bool) → eqb n 1 ≡ r → eqb n 2 ≡ w → eqb n 4 ≡ x → eqb n 8 ≡ g
        → pick r (Ok Read) (pick w (Ok Write) (pick x (Ok Execute) (pick g (Ok Grant) (Err BadField)))) ≡ Ok perm
        → n ≡ 2 ^ bit_of perm
    go true w x g er ew ex eg h = let e : Read ≡ perm = cc in rw (← e) (eqb-true n 1 er)
    go false true x g er ew ex eg h = let e : Write ≡ perm = cc in rw (← e) (eqb-true n 2 ew)
    go false false true g er ew ex eg h = let e : Execute ≡ perm = cc in rw (← e) (eqb-true n 4 ex)
    go false false false true er ew ex eg h = let e : Grant ≡ perm = cc in rw (← e) (eqb-true n 8 eg)
    go false false false false er ew ex eg h = absurd (let z : ◌≡◌ {A = ℕ} 0 1 = cc in omega arith)

pub combine_contains_each : {n : ℕ} {ns : List ℕ} → Memᴰ n ns → (i : ℕ) → bit n i ≤ bit (union_of ns) i
combine_contains_each (Memᴰ.head {x} {xs} e) i = rw e (omega (arith, bit_of_or x (union_of xs) i))
combine_contains_each (Memᴰ.tail {x} {xs} m) i = omega (arith, bit_of_or x (union_of xs) i, combine_contains_each m i)

pub combine_has_nothing_else : (ns : List ℕ) (m : ℕ) → ((n : ℕ) → Memᴰ n ns → (i : ℕ) → bit n i ≤ bit m i)
    → (i : ℕ) → bit (union_of ns) i ≤ bit m i
combine_has_nothing_else [] m h i = omega (arith, bit_above 0 0 i (lit< tt) zero-le)
combine_has_nothing_else (n ∷ ns) m h i =
    let rest = combine_has_nothing_else ns m (λ k p. h k (Memᴰ.tail p)) i in
    omega (arith, bit_of_or n (union_of ns) i, h n (Memᴰ.head refl) i)

-- A list is combined, and not refused, exactly when each of its numbers is a permission's.
pub combines_exactly_permissions : (ns : List ℕ) → (all_flags ns ≡ true) ↔ ((n : ℕ) → Memᴰ n ns → is_flag (named n) ≡ true)
combines_exactly_permissions ns = (each ns, every ns)
  where
    each : (ns : List ℕ) → all_flags ns ≡ true → (n : ℕ) → Memᴰ n ns → is_flag (named n) ≡ true
    each [] all n m = elim m [ ]
    each (x ∷ xs) all n (Memᴰ.head e) = rw e (both_left (is_flag (named x)) (all_flags xs) all)
    each (x ∷ xs) all n (Memᴰ.tail m) = each xs (both_right (is_flag (named x)) (all_flags xs) all) n m

    every : (ns : List ℕ) → ((n : ℕ) → Memᴰ n ns → is_flag (named n) ≡ true) → all_flags ns ≡ true
    every [] h = refl
    every (x ∷ xs) h =
        both_make (is_flag (named x)) (all_flags xs) (h x (Memᴰ.head refl)) (every xs (λ n m. h n (Memᴰ.tail m)))
