-- Records moved from one edition to the other: 02, Q-7.
-- Assumes nothing.
use Rattle.std.specs.Prelude.{ℕ, ◌+◌, ◌*◌, ◌/◌, ◌%◌, ◌^◌, Bool, true, false, List, [], ◌∷◌, eqb}
use Rattle.records.specs.declared.Record.{Record}
use Rattle.records.specs.Record.{records}
use Rattle.wide.specs.declared.Wide.{Wide}
use Rattle.wide.specs.Spread.{spread}
use Rattle.wide.specs.Wide.{level, rank_of, wides}

-- the word of a record, and its bytes: 01, "step 24, CKE, CS, RAS, CAS, WE, BA 3, A15..A0 16", "most significant first"
unfoldable pub packed : Record → ℕ
packed r = r.step * 2 ^ 24 + level r.cke * 2 ^ 23 + r.pins * 2 ^ 19 + r.bank * 2 ^ 16 + r.a

unfoldable pub bytes6 : ℕ → List ℕ
bytes6 n =
    n / 1099511627776 % 256 ∷ n / 4294967296 % 256 ∷ n / 16777216 % 256 ∷ n / 65536 % 256 ∷ n / 256 % 256 ∷ n % 256 ∷ []

-- the same of edition 2: "step 24, RESET, CKE, two CS, ODT, RAS, CAS, WE, BA 3, A 16, zero 13"
unfoldable pub packed_wide : Wide → ℕ
packed_wide w =
    w.step * 2 ^ 40 + level w.reset * 2 ^ 39 + level w.cke * 2 ^ 38 + level w.first * 2 ^ 37 + level w.second * 2 ^ 36
    + level w.odt * 2 ^ 35 + w.pins * 2 ^ 32 + w.bank * 2 ^ 29 + w.a * 2 ^ 13 + w.zero

unfoldable pub bytes8 : ℕ → List ℕ
bytes8 n =
    n / 72057594037927936 % 256 ∷ n / 281474976710656 % 256 ∷ n / 1099511627776 % 256 ∷ n / 4294967296 % 256 ∷ n / 16777216 % 256
    ∷ n / 65536 % 256 ∷ n / 256 % 256 ∷ n % 256 ∷ []

-- "Old to new sets RESET 1, the second CS 1, ODT 0"
unfoldable pub widened : Record → Wide
widened r = record {
  step = r.step;
  reset = true;
  cke = r.cke;
  first = eqb (r.pins / 8 % 2) 1;
  second = true;
  odt = false;
  pins = r.pins % 8;
  bank = r.bank;
  a = r.a;
  zero = 0;
}

-- the bytes of edition 2 that those of edition 1 become
abbrev pub widen : List ℕ → List ℕ
widen bs = spread (λ r. bytes8 (packed_wide (widened r))) (records bs)

-- the bytes of edition 1 that hold what a rank sees
abbrev pub narrow : (second : Bool) → List ℕ → List ℕ
narrow second bs = spread (λ w. bytes6 (packed (rank_of second w))) (wides bs)
