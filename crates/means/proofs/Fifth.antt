-- Rule 5 looks at one closing event: that is to search every event that closes its bank, counted from the precharge start.
-- Assumes nothing.
use Prim.Native.Nat.{ℕ, ◌<◌}
use native.Mathlib.Omega.{arith}
use mathlib.Core.Bool.{Bool, true, false, ◌&&◌, ◌||◌}
use mathlib.Core.List.{[], ◌∷◌, tail}
use mathlib.Core.Logic.{⊎_elim}
use mathlib.Core.Path.{◌≡◌, refl, ap, sym, ◌∙◌}
use borrow.Author.Tests.{eq-eqb}
use Rattle.answers.specs.declared.Break.{Break}
use Rattle.answers.specs.declared.Break.TheVariants.{Fine}
use Rattle.chip.specs.declared.Chip.{Chip}
use Rattle.records.specs.declared.Command.TheVariants.{Pre}
use Rattle.rules.specs.Past.{Past, is, column, bank_of, on, a10_of, ◌∈◌, latest, greatest, Greatest}
use Rattle.rules.specs.Search.{look_back, asking}
use Rattle.rules.specs.Banks.{closes, shuts, start}
use Rattle.rules.specs.Rules.{since}
use Rattle.rules.proofs.Generic.{decide, check_of, kept_fine, latest-only}
use Rattle.rules.proofs.Events.{number-le, unchanged-or, greatest-is}
use Rattle.rules.proofs.Clean.{Clean}
use Rattle.rules.proofs.Starts.{start_none, since-kept, starts, greatest-latest}
use Rattle.rules.proofs.Facts.{Sound}
use Rattle.rules.proofs.Dominate.{bank-small}

-- an event of the kind is the latest of it
itself : (k : Past → Bool) (s : Past) → k [] ≡ false → k s ≡ true → latest k s ≡ s
itself k [] n y = refl
itself k (r ∷ p) n y = rw y

-- an event that closes a bank closes its own
shuts-own : (s : Past) → shuts s ≡ true → closes (bank_of s) s ≡ true
shuts-own s y = rw (eq-eqb (bank_of s) (bank_of s) refl) (go (is Pre s) (column s) (a10_of s) y)
  where
    go : (x c a : Bool) → x || c && a ≡ true → x && (a || true) || c && (a && true) ≡ true
    go true c true h = refl
    go true c false h = refl
    go false true true h = refl
    go false true false h = h
    go false false a h = h

closes-shuts : (b : ℕ) (s : Past) → closes b s ≡ true → shuts s ≡ true
closes-shuts b s y = go (is Pre s) (column s) (a10_of s) (on b s) y
  where
    go : (x c a o : Bool) → x && (a || o) || c && (a && o) ≡ true → x || c && a ≡ true
    go true c a o h = refl
    go false true true o h = refl
    go false true false o h = h
    go false false a o h = h

module _ (C : Chip) (S : Sound C) (p : Past) (hyp : Clean C p) (e : ℕ) where
  -- every event of p that closes the bank
  abbrev pub searched : (bank : ℕ) → Break
  searched b = look_back (start C) 5 (asking (closes b) (λ _. C.trp)) e p

  one : (s : Past) → since C e s ≡ check_of (start C) 5 e (λ _. C.trp) s
  one [] = refl
  one (r ∷ q) = refl

  latest-searches : (b : ℕ) → b < 8 → since C e (latest (closes b) p) ≡ searched b
  latest-searches b small =
      one (latest (closes b) p)
      ∙ sym (latest-only (start C) 5 e (closes b) (λ _. C.trp) p (λ s i h. omega (arith, S.rp-least)) (λ s t i j y z. omega (arith, starts C b small p s t hyp i j y z)))

  -- "to ACT same bank"
  pub act-searches : (b : ℕ) → b < 8 → since C e (greatest (closes b) (start C) p) ≡ searched b
  act-searches b small = ap (since C e) (greatest-latest C b small p hyp) ∙ latest-searches b small

  nowhere : (x : Past) → x ∈ [] → ⊥
  nowhere x j = elim j [ ]

  -- the event of the greatest start is the latest that closes its own bank
  own-latest : (g : Past) → Greatest shuts (start C) p g → g ≡ latest (closes (bank_of g)) p
  own-latest g w = ⊎_elim
      (λ (z : latest (closes (bank_of g)) p ≡ latest (closes (bank_of g)) g). sym (z ∙ itself (closes (bank_of g)) g refl (shuts-own g w.kind)))
      (λ m. absurd (later m.0 m.1 m.2 m.3))
      (unchanged-or (closes (bank_of g)) w.event)
    where
      later : (m : Past) → m ∈ p → g ∈ tail m → closes (bank_of g) m ≡ true → ⊥
      later [] i j y = absurd (nowhere g j)
      later (r ∷ q) i j y =
          omega (arith, w.last (r ∷ q) i (closes-shuts (bank_of g) (r ∷ q) y) (omega (arith, number-le j)), starts C (bank_of g) (bank-small g) p (r ∷ q) g hyp i j y (shuts-own g w.kind))

  -- where the greatest start of any bank has its clocks, the search of every bank is fine
  pub any-fine : since C e (greatest shuts (start C) p) ≡ Fine → (b : ℕ) → searched b ≡ Fine
  any-fine h b = kept_fine (start C) 5 (asking (closes b) (λ _. C.trp)) e p (λ s i. ⊎_elim
      (λ (y : closes b s ≡ true). rw y (since-kept C shuts e p h s i (closes-shuts b s y)))
      (λ (n : closes b s ≡ false). rw n (omega arith))
      (decide (closes b s)))

  -- "to REF, MRS, ZQ, SRE any bank": the search of the bank of the greatest start
  pub any-searches : since C e (greatest shuts (start C) p) ≡ searched (bank_of (greatest shuts (start C) p))
  any-searches = ⊎_elim
      (λ w. rw w.0 (sym (any-fine (rw w.0) 0)))
      (λ w. ap (since C e) (own-latest (greatest shuts (start C) p) w) ∙ latest-searches (bank_of (greatest shuts (start C) p)) (bank-small (greatest shuts (start C) p)))
      (greatest-is shuts (start C) (start_none C) p)
