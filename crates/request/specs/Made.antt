-- A record made of given fields, as its 24 bytes: read back, it has these fields.
use Rattle.std.specs.Prelude.{◌≡◌, List, [], ◌∷◌, ◌++◌, ℕ, zero, suc, ◌+◌, ◌*◌, ◌/◌, ◌%◌, ◌^◌, ◌<◌, length, refl}
use Rattle.std.proofs.Common.{sym, ap, ◌∙◌, add_assoc, add-mul, mul_assoc, mul-one, add-zero, zero-add, mod-eq_of_lt, length-append, append_assoc, arith}
use Rattle.std.proofs.Math.Arith.{mod-mul}
use Rattle.std.proofs.Math.Nat.{mod-one, pow-succ', pow-le-pow_right}
use Rattle.std.proofs.lemmas.List.{get_or_at}
use Rattle.request.specs.declared.Request.{Request}
use Rattle.request.specs.Record.{word_from, word_at, request_of}

-- The last n bytes of a word, the most significant first.
unfoldable pub bytes_of : ℕ → ℕ → List ℕ
bytes_of zero w = []
bytes_of (suc n) w = (w / 256 ^ n % 256) ∷ bytes_of n w

unfoldable pub first_word : Request → ℕ
first_word r =
    r.op * 2 ^ 59 + r.space * 2 ^ 53 + r.second * 2 ^ 47 + r.valid * 2 ^ 46 + r.cap_type * 2 ^ 42 + r.rights * 2 ^ 10 + r.zero

unfoldable pub record_of : Request → List ℕ
record_of r = bytes_of 8 (first_word r) ++ (bytes_of 8 r.a ++ bytes_of 8 r.b)

-- Each field has its bits.
pub record Coded (r : Request) : Type 0 where
  pub op : r.op < 2 ^ 5
  pub space : r.space < 2 ^ 6
  pub second : r.second < 2 ^ 6
  pub valid : r.valid < 2
  pub type : r.cap_type < 2 ^ 4
  pub rights : r.rights < 2 ^ 32
  pub zero : r.zero < 2 ^ 10
  pub a : r.a < 2 ^ 64
  pub b : r.b < 2 ^ 64

length_bytes : (n w : ℕ) → length (bytes_of n w) ≡ n
unfolding bytes_of
length_bytes zero w = refl
length_bytes (suc n) w = ap suc (length_bytes n w)

-- The n bytes behind p, after a word so far.
words_back :
    (n w word i : ℕ) (p rest : List ℕ)
    → length p ≡ i
    → word_from (p ++ (bytes_of n w ++ rest)) i n word ≡ word * 256 ^ n + w % 256 ^ n
unfolding word_from bytes_of
words_back zero w word i p rest here = rw (mod-one, add-zero, mul-one)
words_back (suc n) w word i p rest here =
    let byte : ℕ = w / 256 ^ n % 256 in
    let list : p ++ (byte ∷ (bytes_of n w ++ rest)) ≡ (p ++ (byte ∷ [])) ++ (bytes_of n w ++ rest) = sym (append_assoc p (byte ∷ []) _) in
    let next : length (p ++ (byte ∷ [])) ≡ i + 1 = simp length-append (omega arith) in
    let some : 0 < 256 ^ n = pow-le-pow_right {n = 256} (omega arith) {i = 0} {j = n} (omega arith) in
    ap (λ b. word_from (p ++ (byte ∷ (bytes_of n w ++ rest))) (i + 1) n (word * 256 + b)) (get_or_at p byte _ 0 i here)
    ∙ ap (λ bytes. word_from bytes (i + 1) n (word * 256 + byte)) list
    ∙ words_back n w (word * 256 + byte) (i + 1) (p ++ (byte ∷ [])) rest next
    ∙ rw (pow-succ' 256 n, mod-mul w {m = 256} {c = 256 ^ n} (omega arith) some, add-mul, mul_assoc, add_assoc)

-- A word of 64 bits.
word_back : (w : ℕ) (p rest : List ℕ) (i : ℕ) → w < 2 ^ 64 → length p ≡ i → word_at (p ++ (bytes_of 8 w ++ rest)) i ≡ w
word_back w p rest i small here = words_back 8 w 0 i p rest here ∙ zero-add _ ∙ mod-eq_of_lt small

module _ (r : Request) (coded : Coded r) where
  fields_back :
      (w : ℕ)
      → w ≡ first_word r
      → (w < 2 ^ 64)
      × (w / 2 ^ 59 ≡ r.op)
      × (w / 2 ^ 53 % 2 ^ 6 ≡ r.space)
      × (w / 2 ^ 47 % 2 ^ 6 ≡ r.second)
      × (w / 2 ^ 46 % 2 ≡ r.valid)
      × (w / 2 ^ 42 % 2 ^ 4 ≡ r.cap_type)
      × (w / 2 ^ 10 % 2 ^ 32 ≡ r.rights)
      × (w % 2 ^ 10 ≡ r.zero)
  unfolding first_word
  fields_back w e = (omega arith, omega arith, omega arith, omega arith, omega arith, omega arith, omega arith, omega arith)

  pub read_back : (before after : List ℕ) → request_of (before ++ (record_of r ++ after)) (length before) ≡ r
  unfolding request_of record_of
  read_back before after =
      let at : ℕ = length before in
      let w : List ℕ = bytes_of 8 (first_word r) in
      let a : List ℕ = bytes_of 8 r.a in
      let b : List ℕ = bytes_of 8 r.b in
      let bytes : List ℕ = before ++ ((w ++ (a ++ b)) ++ after) in
      let to_a : bytes ≡ (before ++ w) ++ (a ++ (b ++ after)) = simp append_assoc in
      let to_b : bytes ≡ (before ++ (w ++ a)) ++ (b ++ after) = simp append_assoc in
      let back = fields_back (first_word r) refl in
      let first : word_at bytes at ≡ first_word r = rw append_assoc (word_back (first_word r) before _ at back.0 refl) in
      let second : word_at bytes (at + 8) ≡ r.a =
      rw to_a (word_back r.a (before ++ w) _ (at + 8) coded.a (simp (length-append, length_bytes))) in
      let third : word_at bytes (at + 16) ≡ r.b =
      rw to_b (word_back r.b (before ++ (w ++ a)) _ (at + 16) coded.b (simp (length-append, length_bytes))) in
      rw (first, second, third, back.1, back.2, back.3, back.4, back.5, back.6, back.7)
