-- Document 01, "Request stream program": a record is 24 bytes, three words of eight, the most significant byte first. Fields of the first
-- word, most significant first: op 5 bits, space 6, second space 6, valid 1, type 4, rights 32, zero 10; then word A and word B.
use Rattle.std.specs.Prelude.{List, ℕ, zero, suc, ◌+◌, ◌*◌, ◌/◌, ◌%◌, ◌^◌, get_or}
use Rattle.request.specs.declared.Request.{Request}

-- n bytes from place i on, after those that made the word so far.
unfoldable pub word_from : List ℕ → ℕ → ℕ → ℕ → ℕ
word_from bytes i zero word = word
word_from bytes i (suc n) word = word_from bytes (i + 1) n (word * 256 + get_or bytes i 0)

abbrev pub word_at : List ℕ → ℕ → ℕ
word_at bytes i = word_from bytes i 8 0

-- The record that begins at place i.
unfoldable pub request_of : List ℕ → ℕ → Request
request_of bytes i =
    let w = word_at bytes i in
    record {
      op = w / 2 ^ 59;
      space = w / 2 ^ 53 % 2 ^ 6;
      second = w / 2 ^ 47 % 2 ^ 6;
      valid = w / 2 ^ 46 % 2;
      cap_type = w / 2 ^ 42 % 2 ^ 4;
      rights = w / 2 ^ 10 % 2 ^ 32;
      zero = w % 2 ^ 10;
      a = word_at bytes (i + 8);
      b = word_at bytes (i + 16);
    }
