-- A part of a list, the k elements from place a on, and a list in which such a part is changed and nothing else.
-- A lent `&mut xs[a..a + k]` comes back as `on_part`, by computation.
use Rattle.std.specs.Prelude.{◌≡◌, refl, List, [], ◌∷◌, ◌++◌, ℕ, zero, suc, ◌+◌, ◌-◌, ◌<◌, ◌≤◌, length, get_or, set, take, drop}
use Rattle.std.proofs.Common.{◌∙◌, add-sub_of_le, arith, length-append, length-take, length-drop, take-append-drop, length-take-le, take-take, drop-drop, take_at, drop_at, get_or-take, get_or-drop, drop-set-lt}
use Rattle.std.proofs.Math.Nat.{add-sub_cancel_left}
use Rattle.std.proofs.Math.Seq.{take-set-lt}
use Rattle.std.proofs.lemmas.List.{take-set-le, drop-set-add}

module _ {ℓ} {A : Type ℓ} where
  abbrev pub part : ℕ → ℕ → List A → List A
  part a k xs = take k (drop a xs)

  abbrev pub on_part : ℕ → ℕ → (List A → List A) → List A → List A
  on_part a k f xs = take a xs ++ (f (take k (drop a xs)) ++ drop k (drop a xs))

  -- What a call leaves that was lent the places from a up to e, in the words of the part's width.
  pub lent : (a k e : ℕ) (f : List A → List A) (xs ys : List A) → a + k ≡ e → ys ≡ f (take (e - a) (drop a xs))
      → take a xs ++ (ys ++ drop (e - a) (drop a xs)) ≡ on_part a k f xs
  lent a k e f xs ys w h = rw (h, ← w, add-sub_cancel_left)

  -- ---- a part

  pub length_part : (a k : ℕ) (xs : List A) → a + k ≤ length xs → length (part a k xs) ≡ k
  length_part a k xs fits = simp (length-take, length-drop) (omega arith)

  pub get_d_part : (a k : ℕ) (xs : List A) (i : ℕ) (d : A) → i < k → get_or (part a k xs) i d ≡ get_or xs (a + i) d
  get_d_part a k xs i d l = rw (get_or-take, get_or-drop)

  -- A part that ends by place n is one of the first n; one that starts there or later, of the rest.
  part_take : (n a k : ℕ) (xs : List A) → a + k ≤ n → part a k (take n xs) ≡ part a k xs
  part_take n zero k xs l = take-take k n xs (omega arith)
  part_take zero (suc a) k xs l = absurd (omega arith)
  part_take (suc n) (suc a) k [] l = refl
  part_take (suc n) (suc a) k (x ∷ xs) l = part_take n a k xs (omega arith)

  part-drop : (n a k : ℕ) (xs : List A) → n ≤ a → part (a - n) k (drop n xs) ≡ part a k xs
  part-drop n a k xs l = rw (drop-drop, add-sub_of_le)

  pub part-part : (a k b m : ℕ) (xs : List A) → b + m ≤ k → part b m (part a k xs) ≡ part (a + b) m xs
  part-part a k b m xs l = part_take k b m (drop a xs) l ∙ rw drop-drop

  -- ---- where the part lies in a list that is laid out as two or three

  on_part_at : (p u r : List A) (a k : ℕ) (f : List A → List A) → length p ≡ a → length u ≡ k
      → on_part a k f (p ++ (u ++ r)) ≡ p ++ (f u ++ r)
  on_part_at p u r a k f e h = rw (take_at p, drop_at p, take_at u, drop_at u)

  -- ---- a list with a part changed

  -- A change that leaves the part as it is, the identity for one, leaves the list as it is.
  pub on_part_same : (a k : ℕ) (f : List A → List A) (xs : List A) → f (part a k xs) ≡ part a k xs → on_part a k f xs ≡ xs
  on_part_same a k f xs e = rw (e, take-append-drop, take-append-drop)

  pub length-on_part : (a k : ℕ) (f : List A → List A) (xs : List A) → length (f (part a k xs)) ≡ length (part a k xs)
      → length (on_part a k f xs) ≡ length xs
  length-on_part a k f xs kept = simp (length-append, kept, length-take, length-drop) (omega arith)

  pub on_part-set : (a k : ℕ) (xs : List A) (i : ℕ) (v : A) → i < k → on_part a k (λ ys. set ys i v) xs ≡ set xs (a + i) v
  on_part-set a k xs i v l =
      rw (
        ← take-set-lt k (drop a xs) i v l,
        ← drop-set-lt k (drop a xs) i v l,
        take-append-drop,
        ← drop-set-add,
        ← take-set-le a xs (a + i) v (omega arith),
        take-append-drop,
      )

  module _ (a k : ℕ) (f : List A → List A) (xs : List A) (fits : a + k ≤ length xs) where
    front : length (take a xs) ≡ a
    front = length-take-le a xs (omega arith)

    pub part-on_part_before : (b m : ℕ) → b + m ≤ a → part b m (on_part a k f xs) ≡ part b m xs
    part-on_part_before b m l = rw (← part_take a b m (on_part a k f xs) l, take_at, front, part_take)

    module _ (kept : length (f (part a k xs)) ≡ length (part a k xs)) where
      middle : length (f (part a k xs)) ≡ k
      middle = kept ∙ length_part a k xs fits

      pub part-on_part : part a k (on_part a k f xs) ≡ f (part a k xs)
      part-on_part = rw (drop_at, front, take_at, middle)

      drop-on_part : drop (a + k) (on_part a k f xs) ≡ drop (a + k) xs
      drop-on_part = rw (← drop-drop k a (on_part a k f xs), drop_at (take a xs), front, drop_at (f (part a k xs)), middle, drop-drop)

      pub part-on_part_after : (b m : ℕ) → a + k ≤ b → part b m (on_part a k f xs) ≡ part b m xs
      part-on_part_after b m l = rw (← part-drop (a + k) b m (on_part a k f xs) l, drop-on_part, part-drop)

      pub on_part_twice : (g : List A → List A) → on_part a k g (on_part a k f xs) ≡ on_part a k (λ ys. g (f ys)) xs
      on_part_twice g = on_part_at (take a xs) (f (part a k xs)) (drop k (drop a xs)) a k g front middle
