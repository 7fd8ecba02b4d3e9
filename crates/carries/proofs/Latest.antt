-- The latest RD and the latest WR of all banks, from those of the eight banks.
-- Assumes nothing.
use Prim.Native.Nat.{ℕ, ◌+◌, ◌-◌, ◌≤◌, ◌<◌}
use native.Mathlib.Omega.{arith}
use mathlib.Core.Path.{◌≡◌, refl, ap, ◌∙◌}
use mathlib.Core.Logic.{◌⊎◌, inl, inr, ⊎_elim}
use mathlib.Core.Bool.{Bool, true, false, ◌&&◌}
use mathlib.Core.List.{List, [], ◌∷◌}
use lib.ListN.{get_or}
use borrow.Author.Tests.{eq-eqb}
use Rattle.laws.proofs.Both.{both}
use Rattle.laws.proofs.Eight.{get_or-first, get_or-second}
use Rattle.records.specs.declared.Command.TheVariants.{Wr, Rd}
use Rattle.chip.specs.declared.Chip.{Chip}
use Rattle.edges.specs.Views.{latest_from, read_of, wrote_of}
use Rattle.edges.proofs.Latest.{Most, latest-from}
use Rattle.rules.specs.Past.{Past, edge, number, is, bank_of, on, ◌∈◌, latest}
use Rattle.rules.proofs.Generic.{decide}
use Rattle.rules.proofs.Events.{latest-is, latest-part}
use Rattle.rules.proofs.Dominate.{need10, need11, need13, need14, need19, bank-small}
use Rattle.rules.proofs.Summary.{rd_on, wr_on, read_of as read_by, wrote_of as wrote_by}
use Rattle.rules.proofs.Status.{latest-number}
use Rattle.carries.proofs.Summary.{of, each_column, banks_of}

-- an event and a later part of it of the same number are one
same-part : (k : Past → Bool) (s : Past) → number s ≤ number (latest k s) → latest k s ≡ s
same-part k [] l = refl
same-part k (r ∷ p) l = ⊎_elim
    (λ (y : k (r ∷ p) ≡ true). rw y)
    (λ (n : k (r ∷ p) ≡ false). absurd (omega (arith, rw n at l, latest-number k p)))
    (decide (k (r ∷ p)))

-- the bank whose latest event of the kind k has the greatest number: that is the latest of all banks
module _ (k : Past → Bool) (p : Past) where
  abbrev on_bank : ℕ → Past → Bool
  on_bank b s = k s && on b s

  is-latest : (i : ℕ) → ((b : ℕ) → b < 8 → number (latest (on_bank b) p) ≤ number (latest (on_bank i) p)) → latest (on_bank i) p ≡ latest k p
  is-latest i most = part i ∙ same-part (on_bank i) (latest k p) (go (latest-is k p))
    where
      part : (b : ℕ) → latest (on_bank b) p ≡ latest (on_bank b) (latest k p)
      part b = latest-part (on_bank b) k (λ s y. (both (k s) _ y).0) p

      own : (s : Past) → k s ≡ true → latest (on_bank (bank_of s)) s ≡ s
      own [] y = refl
      own (r ∷ q) y = rw (y, eq-eqb (bank_of (r ∷ q)) (bank_of (r ∷ q)) refl)

      go : (latest k p ≡ []) ⊎ ((latest k p ∈ p) × (k (latest k p) ≡ true)) → number (latest k p) ≤ number (latest (on_bank i) (latest k p))
      go (inl z) = let e : number (latest k p) ≡ 0 = ap number z in omega arith
      go (inr w) =
          let s = latest k p in
          let e : number (latest (on_bank (bank_of (latest k p))) p) ≡ number (latest k p) = ap number (part (bank_of s) ∙ own s w.1) in
          let f : number (latest (on_bank i) p) ≡ number (latest (on_bank i) (latest k p)) = ap number (part i) in
          omega (arith, most (bank_of s) (bank-small s))

-- ── RD and WR ───────────────────────────────────────────────────────────────────────────────

module _ (C : Chip) (p : Past) where
  read-parts : (s : Past) → record { at = edge s; num = number s; n10 = of (need10 C) s; n13 = of (need13 C) s; n19 = of (need19 C) s } ≡ read_by C s
  read-parts [] = refl
  read-parts (r ∷ q) = refl

  wrote-parts : (s : Past) → record { at = edge s; num = number s; n11 = of (need11 C) s; n14 = of (need14 C) s } ≡ wrote_by C s
  wrote-parts [] = refl
  wrote-parts (r ∷ q) = refl

  abbrev nums : List ℕ
  nums = each_column number number p

  at-rd : (f g : Past → ℕ) (b : ℕ) → b < 8 → get_or (each_column f g p) b 0 ≡ f (latest (rd_on b) p)
  at-rd f g b l = get_or-first (λ b. f (latest (rd_on b) p)) (λ b. g (latest (wr_on b) p)) b 0 l

  at-wr : (f g : Past → ℕ) (b : ℕ) → b < 8 → get_or (each_column f g p) (b + 8) 0 ≡ g (latest (wr_on b) p)
  at-wr f g b l = get_or-second (λ b. f (latest (rd_on b) p)) (λ b. g (latest (wr_on b) p)) b 0 l

  -- at the place of the greatest number stands what is kept of the latest of all
  rd-place : (i : ℕ) → Most nums 0 7 i → (f g : Past → ℕ) → get_or (each_column f g p) i 0 ≡ f (latest (is Rd) p)
  rd-place i w f g =
      let l : i < 8 = omega (arith, w.within) in
      at-rd f g i l ∙ ap f (is-latest (is Rd) p i (λ b m. less b m l))
    where
      less : (b : ℕ) → b < 8 → i < 8 → number (latest (rd_on b) p) ≤ number (latest (rd_on i) p)
      less b m l =
          let z : 0 + b ≡ b = omega arith in
          let x : get_or (each_column number number p) (0 + b) 0 ≡ number (latest (rd_on b) p) = ap (λ n. get_or nums n 0) z ∙ at-rd number number b m in
          omega (arith, w.most b (omega arith), at-rd number number i l)

  wr-place : (i : ℕ) → Most nums 8 7 i → (f g : Past → ℕ) → get_or (each_column f g p) i 0 ≡ g (latest (is Wr) p)
  wr-place i w f g =
      let e : i ≡ i - 8 + 8 = omega (arith, w.after) in
      let l : i - 8 < 8 = omega (arith, w.within) in
      ap (λ n. get_or (each_column f g p) n 0) e ∙ at-wr f g (i - 8) l ∙ ap g (is-latest (is Wr) p (i - 8) (λ b m. less b m e l))
    where
      less : (b : ℕ) → b < 8 → i ≡ i - 8 + 8 → i - 8 < 8 → number (latest (wr_on b) p) ≤ number (latest (wr_on (i - 8)) p)
      less b m e l =
          let z : 8 + b ≡ b + 8 = omega arith in
          let x : get_or (each_column number number p) (8 + b) 0 ≡ number (latest (wr_on b) p) = ap (λ n. get_or nums n 0) z ∙ at-wr number number b m in
          let y : get_or (each_column number number p) i 0 ≡ number (latest (wr_on (i - 8)) p) = ap (λ n. get_or nums n 0) e ∙ at-wr number number (i - 8) l in
          omega (arith, w.most b (omega arith))

  pub read_view : read_of (banks_of C p) ≡ read_by C (latest (is Rd) p)
  unfolding read_of banks_of
  read_view =
      (λ j. record {
        at = here edge edge j;
        num = here number number j;
        n10 = here (of (need10 C)) (of (need11 C)) j;
        n13 = here (of (need13 C)) (of (need14 C)) j;
        n19 = here (of (need19 C)) (of (λ _. 0)) j;
      })
      ∙ read-parts (latest (is Rd) p)
    where
      here : (f g : Past → ℕ) → get_or (each_column f g p) (latest_from nums 0 7) 0 ≡ f (latest (is Rd) p)
      here = rd-place (latest_from nums 0 7) (latest-from nums 0 7)

  pub wrote-view : wrote_of (banks_of C p) ≡ wrote_by C (latest (is Wr) p)
  unfolding wrote_of banks_of
  wrote-view =
      (λ j. record {
        at = here edge edge j;
        num = here number number j;
        n11 = here (of (need10 C)) (of (need11 C)) j;
        n14 = here (of (need13 C)) (of (need14 C)) j;
      })
      ∙ wrote-parts (latest (is Wr) p)
    where
      here : (f g : Past → ℕ) → get_or (each_column f g p) (latest_from nums 8 7) 0 ≡ g (latest (is Wr) p)
      here = wr-place (latest_from nums 8 7) (latest-from nums 8 7)
