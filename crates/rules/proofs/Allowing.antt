-- A record breaks none of rules 4 to 21, 29 and 30 exactly where its edge is not below its waiting time.
-- Assumes nothing.
use Prim.Native.Nat.{ℕ, zero, suc, ◌-◌, ◌≤◌, ◌<◌, max}
use native.Mathlib.Omega.{arith}
use native.Mathlib.Decide.{ℕ_discrete}
use mathlib.Core.Path.{◌≡◌, refl, subst}
use mathlib.Core.Logic.{◌↔◌, ⊎_elim}
use mathlib.Core.Bool.{Bool, true, false, cond, not, ◌&&◌, ◌||◌}
use mathlib.Core.List.{List, [], ◌∷◌, ◌++◌}
use borrow.Author.Tests.{le-ltb, eq-eqb}
use Rattle.laws.proofs.Both.{both}
use Rattle.answers.specs.declared.Break.{Break}
use Rattle.answers.specs.declared.Break.TheVariants.{Fine}
use Rattle.answers.specs.Answer.{or_else}
use Rattle.records.specs.declared.Record.{Record}
use Rattle.records.specs.declared.Command.{Command}
use Rattle.records.specs.declared.Command.TheVariants.{Mrs, Ref, Pre, Act, Wr, Rd, Zq, Nop, Des, Sre, Srx, Low, Bad, Pde, Pdx}
use Rattle.records.specs.Command.{is_a, counts, a10}
use Rattle.chip.specs.declared.Chip.{Chip}
use Rattle.running.specs.Waits.{ends}
use Rattle.rules.specs.Past.{Past, edge, number, command, is, bank_of, on, back, greatest}
use Rattle.rules.specs.Registers.{dll_reset}
use Rattle.rules.specs.Banks.{act_on, closes, shuts, start}
use Rattle.rules.specs.Down.{slow_exit}
use Rattle.rules.specs.Search.{look_back, asking, Spacing, row}
use Rattle.rules.specs.Rules.{r4, r6, r7, r9, r10, r11, r12r, r12w, r13, r14, r15, r16, r17, r18, r19, r20, r21, r22, r29, r30, spacing, spaced, since, fourth, rule1, rule2, rule3, rule5, rule8, rule23, checks, break_at}
use Rattle.rules.specs.Waiting.{Ask, furthest, of_all, of_banks, by, by_start, after_fourth, by_fourth, asks, wait, wait_at, spacing_rules, waiting_rules}
use Rattle.rules.proofs.Generic.{decide, edge-le, kept_fine, short-fine, fine-kept}
use Rattle.rules.proofs.Events.{never, or_else-fine, back-edge}
use Rattle.rules.proofs.Clean.{is-command, wants_all}
use Rattle.rules.proofs.Facts.{Sound}
use Rattle.rules.proofs.Dominate.{and-true, bank-small}
use Rattle.rules.proofs.Summary.{start_mark}
use Rattle.rules.proofs.Furthest.{asks_from, met, met-furthest, furthest-start, furthest-fourth}

-- rules 4 to 21 are all of rules 1 to 23 but 1 to 3, 22 and 23
pub rules-parts : (C : Chip) → checks C ≡ rule1 C ∷ rule2 C ∷ rule3 C ∷ spacing_rules C ++ (spaced C r22 ∷ rule23 C ∷ [])
rules-parts C = refl

-- ── One rule ────────────────────────────────────────────────────────────────────────────────

-- to look back and find nothing is to stand at or past the edge that is asked for
looked : (k : ℕ) (who : Past → Bool) (need : Past → ℕ) (e : ℕ) (p : Past) → edge p ≤ e
    → (look_back edge k (asking who need) e p ≡ Fine) ↔ (furthest (asks_from edge who need) p ≤ e)
looked k who need e p late = (
  λ h. met-furthest a e p (λ s i y. let n = rw y at (fine-kept edge k (asking who need) e p h s i) in omega (arith, edge-le i)),
  λ h. kept_fine edge k (asking who need) e p (λ s i. ⊎_elim
      (λ (y : who s ≡ true). rw y (let n = met a e p h s i y in omega arith))
      (λ (n : who s ≡ false). rw n (omega arith))
      (decide (who s))),
)
  where
    a : Ask
    a = asks_from edge who need

module _ (C : Chip) (e : ℕ) where
  -- rule 5: since t_rp is some clocks, a start that is ahead fails both ways
  since-waits : 1 ≤ C.trp → (who : Past → Bool) (p : Past) → (since C e (greatest who (start C) p) ≡ Fine) ↔ (furthest (by_start C who) p ≤ e)
  since-waits some who p = rw (← furthest-start C who p) (go (greatest who (start C) p))
    where
      go : (g : Past) → (since C e g ≡ Fine) ↔ (ends (start_mark C g) ≤ e)
      go [] = (λ _. omega arith, λ _. refl)
      go (q ∷ g) = (
        λ h. omega (arith, (short-fine 5 e (start C (q ∷ g)) (number (q ∷ g)) C.trp Fine h).0),
        λ h. rw (le-ltb (e - start C (q ∷ g)) C.trp (omega arith)),
      )

  -- rule 8
  fourth-waits : (p : Past) → edge p ≤ e → (fourth C e (back (is Act) 3 p) ≡ Fine) ↔ (furthest (by_fourth C) p ≤ e)
  fourth-waits p late = rw (← furthest-fourth C p) (go (back (is Act) 3 p) (omega (arith, back-edge (is Act) 3 p)))
    where
      go : (g : Past) → edge g ≤ e → (fourth C e g ≡ Fine) ↔ (after_fourth C g ≤ e)
      go [] l = (λ _. omega arith, λ _. refl)
      go (q ∷ g) l = (
        λ h. omega (arith, (short-fine 8 e (edge (q ∷ g)) (number (q ∷ g)) C.tfaw Fine h).0),
        λ h. rw (le-ltb (e - edge (q ∷ g)) C.tfaw (omega arith)),
      )

-- ── All rules ───────────────────────────────────────────────────────────────────────────────

-- what is asked where a test holds
abbrev chosen : List (Bool × Ask) → List Ask
chosen [] = []
chosen (w ∷ l) = cond w.0 (w.1 ∷ chosen l) (chosen l)

-- every rule's ask of a command, with the test whether the rule speaks of it; v: the banks that a PRE covers
module _ (C : Chip) where
  abbrev every_ask : Command → (bank : ℕ) (v : Past → Bool) → List (Bool × Ask)
  every_ask c b v =
      (is_a Rd c || is_a Wr c, by C r4 (act_on b))
      ∷ (is_a Act c || (is_a Ref c || (is_a Mrs c || (is_a Zq c || is_a Sre c))), by_start C (λ s. cond (is_a Act c) (closes b s) (shuts s)))
      ∷ (is_a Act c, by C r6 (act_on b)) ∷ (is_a Act c, by C r7 (is Act)) ∷ (is_a Act c, by_fourth C)
      ∷ (is_a Pre c, by C r9 (λ s. is Act s && v s)) ∷ (is_a Pre c, by C r10 (λ s. is Rd s && v s)) ∷ (is_a Pre c, by C r11 (λ s. is Wr s && v s))
      ∷ (is_a Rd c, by C r12r (is Rd)) ∷ (is_a Wr c, by C r12w (is Wr)) ∷ (is_a Wr c, by C r13 (is Rd)) ∷ (is_a Rd c, by C r14 (is Wr))
      ∷ (counts c, by C r15 (is Ref)) ∷ (is_a Mrs c, by C r16 (is Mrs)) ∷ (counts c && not (is_a Mrs c), by C r17 (is Mrs))
      ∷ (counts c, by C r18 (is Zq)) ∷ (is_a Mrs c || is_a Sre c, by C r19 (is Rd)) ∷ (is_a Rd c, by C r20 (λ s. dll_reset s || is Srx s))
      ∷ (counts c, by C r21 (is Srx)) ∷ (counts c, by C r29 (is Pdx)) ∷ (is_a Rd c, by C r30 (slow_exit C)) ∷ []

  -- command by command these are the asks, but for a PRE of all banks
  every-asks : (c : Command) (a : Bool) (b : ℕ) → is_a Pre c && a ≡ false → chosen (every_ask c b (λ s. a || on b s)) ≡ asks C c b
  unfolding asks
  every-asks Pre true b n = never refl n
  every-asks Pre false b n = refl
  every-asks Act a b n = refl
  every-asks Rd a b n = refl
  every-asks Wr a b n = refl
  every-asks Ref a b n = refl
  every-asks Zq a b n = refl
  every-asks Mrs a b n = refl
  every-asks Sre a b n = refl
  every-asks Nop a b n = refl
  every-asks Des a b n = refl
  every-asks Srx a b n = refl
  every-asks Low a b n = refl
  every-asks Bad a b n = refl
  every-asks Pde a b n = refl
  every-asks Pdx a b n = refl

-- none of the checks g is broken just if no ask of l is left
record Tied (e : ℕ) (p : Past) (g : Break) (l : List Ask) : Type 0 where
  to : g ≡ Fine → of_all l p ≤ e
  from : of_all l p ≤ e → g ≡ Fine

-- the check f, which is made where x holds, asks for what a asks
abbrev Says : (e : ℕ) → Past → Break → Bool → Ask → Type 0
Says e p f x a = (f ≡ Fine) ↔ (x ≡ true → furthest a p ≤ e)

where-is : (x : Bool) {f : Break} {A : Type 0} → (f ≡ Fine) ↔ A → (cond x f Fine ≡ Fine) ↔ (x ≡ true → A)
where-is true h = (λ y _. h.0 y, λ g. h.1 (g refl))
where-is false h = (λ _ y. never y refl, λ _. refl)

fine-both : {f g : Break} → f ≡ Fine → g ≡ Fine → or_else f g ≡ Fine
unfolding or_else
fine-both x y = rw x y

-- one check more
tie : {e : ℕ} {p : Past} {g : Break} {l : List Ask} (f : Break) (x : Bool) (a : Ask) → Says e p f x a → Tied e p g l
    → Tied e p (or_else f g) (cond x (a ∷ l) l)
tie {g = g} f true a s t =
    record {
      to = λ h. let w = or_else-fine f g h in omega (arith, s.0 w.0 refl, t.to w.1);
      from = λ h. fine-both (s.1 (λ _. omega arith)) (t.from (omega arith));
    }
tie {g = g} f false a s t =
    record {
      to = λ h. t.to (or_else-fine f g h).1;
      from = λ h. fine-both (s.1 (λ y. never y refl)) (t.from h);
    }

module _ (C : Chip) (S : Sound C) (r : Record) (p : Past) where
  abbrev e : ℕ
  e = edge (r ∷ p)

  abbrev b : ℕ
  b = bank_of (r ∷ p)

  -- one row more
  row-tie : (R : Spacing) {g : Break} {l : List Ask} → Tied e p g l
      → Tied e p (or_else (row R r p) g) (cond (R.to (r ∷ p)) (asks_from edge (R.from (r ∷ p)) R.need ∷ l) l)
  row-tie R t = tie (row R r p) (R.to (r ∷ p)) _ (where-is (R.to (r ∷ p)) (looked R.name (R.from (r ∷ p)) R.need e p (omega arith))) t

  -- rule 5, x: an ACT, y: REF, MRS, ZQ or SRE
  five-says : (x y : Bool) → Says e p (cond x (since C e (greatest (closes b) (start C) p)) (cond y (since C e (greatest shuts (start C) p)) Fine))
      (x || y) (by_start C (λ s. cond x (closes b s) (shuts s)))
  five-says true y = where-is true (since-waits C e S.rp-least (closes b) p)
  five-says false y = where-is y (since-waits C e S.rp-least shuts p)

  all-tied : Tied e p (break_at (waiting_rules C) r p) (chosen (every_ask C (command (r ∷ p)) b (λ s. a10 r || on b s)))
  all-tied =
      row-tie (spacing C r4)
      (tie (rule5 C r p) _ _ (five-says (is Act (r ∷ p)) (wants_all (r ∷ p)))
      (row-tie (spacing C r6)
      (row-tie (spacing C r7)
      (tie (rule8 C r p) (is Act (r ∷ p)) (by_fourth C) (where-is (is Act (r ∷ p)) (fourth-waits C e p (omega arith)))
      (row-tie (spacing C r9)
      (row-tie (spacing C r10)
      (row-tie (spacing C r11)
      (row-tie (spacing C r12r)
      (row-tie (spacing C r12w)
      (row-tie (spacing C r13)
      (row-tie (spacing C r14)
      (row-tie (spacing C r15)
      (row-tie (spacing C r16)
      (row-tie (spacing C r17)
      (row-tie (spacing C r18)
      (row-tie (spacing C r19)
      (row-tie (spacing C r20)
      (row-tie (spacing C r21)
      (row-tie (spacing C r29)
      (row-tie (spacing C r30)
      (record { to = λ _. omega arith; from = λ _. refl })))))))))))))))))))))

  -- ── A PRE of all banks ────────────────────────────────────────────────────────────────────

  -- the greatest of the banks is at most e just if each bank's is
  pub of-banks : (f : ℕ → ℕ) (n : ℕ) → of_banks f n ≤ e → (k : ℕ) → k < n → f k ≤ e
  unfolding of_banks
  of-banks f zero h k l = absurd (omega arith)
  of-banks f (suc n) h k l = elim (ℕ_discrete k n) [
    | yes q ↦ rw q (omega arith)
    | no q ↦ of-banks f n (omega arith) k (omega arith)
  ]

  banks-of : (f : ℕ → ℕ) (n : ℕ) → ((k : ℕ) → k < n → f k ≤ e) → of_banks f n ≤ e
  unfolding of_banks
  banks-of f zero h = omega arith
  banks-of f (suc n) h = omega (arith, banks-of f n (λ k l. h k (omega arith)), h n (omega arith))

  -- what is asked by events on each of the eight banks, and by events on any
  any-bank : (k : Past → Bool) (u : Past → ℕ) → ((n : ℕ) → n < 8 → furthest (record { who = λ s. k s && on n s; until = u }) p ≤ e)
      ↔ (furthest (record { who = λ s. k s && true; until = u }) p ≤ e)
  any-bank k u = (
    λ h. met-furthest (record { who = λ x. k x && true; until = u }) e p (λ s i y. met (record { who = λ x. k x && on (bank_of s) x; until = u }) e p (h (bank_of s) (bank-small s)) s i (and-true (both (k s) true y).0 (eq-eqb (bank_of s) (bank_of s) refl))),
    λ h n l. met-furthest (record { who = λ x. k x && on n x; until = u }) e p (λ s i y. met (record { who = λ x. k x && true; until = u }) e p h s i (and-true (both (k s) (on n s) y).0 refl)),
  )

  -- three rows that look at the banks covered, and what is asked of any bank
  all_join : (x y z : ℕ → ℕ) (X Y Z w : ℕ) → ((n : ℕ) → n < 8 → x n ≤ e) ↔ (X ≤ e) → ((n : ℕ) → n < 8 → y n ≤ e) ↔ (Y ≤ e)
      → ((n : ℕ) → n < 8 → z n ≤ e) ↔ (Z ≤ e)
      → (max X (max Y (max Z w)) ≤ e) ↔ ((n : ℕ) → n < 8 → max (x n) (max (y n) (max (z n) w)) ≤ e)
  all_join x y z X Y Z w f g k = (
    λ h n l. omega (arith, f.1 (omega arith) n l, g.1 (omega arith) n l, k.1 (omega arith) n l),
    λ h. omega (arith, f.0 (λ n l. omega (arith, h n l)), g.0 (λ n l. omega (arith, h n l)), k.0 (λ n l. omega (arith, h n l)), h 0 (omega arith)),
  )

  all-banks : (of_all (chosen (every_ask C Pre b (λ s. true))) p ≤ e) ↔ ((n : ℕ) → n < 8 → wait C Pre n p ≤ e)
  unfolding wait asks
  all-banks =
      all_join _ _ _ _ _ _ _
      (any-bank (is Act) (by C r9 (is Act)).until)
      (any-bank (is Rd) (by C r10 (is Rd)).until)
      (any-bank (is Wr) (by C r11 (is Wr)).until)

  -- ── The statement ─────────────────────────────────────────────────────────────────────────

  -- the record breaks none of rules 4 to 21, 29 and 30 just if its edge is not below its waiting time
  pub waits-allow : (break_at (waiting_rules C) r p ≡ Fine) ↔ (wait_at C r p ≤ edge (r ∷ p))
  unfolding wait_at wait
  waits-allow = ⊎_elim
      (λ (y : is Pre (r ∷ p) && a10 r ≡ true).
      let w = both (is Pre (r ∷ p)) (a10 r) y in
      let t = subst (Tied e p (break_at (waiting_rules C) r p)) (λ i. chosen (every_ask C (is-command Pre r p w.0 i) b (λ s. w.1 i || on b s))) all-tied in
      rw y (λ h. banks-of (λ n. wait C Pre n p) 8 (all-banks.0 (t.to h)), λ h. t.from (all-banks.1 (of-banks (λ n. wait C Pre n p) 8 h))))
      (λ (n : is Pre (r ∷ p) && a10 r ≡ false).
      let t = subst (Tied e p (break_at (waiting_rules C) r p)) (every-asks C (command (r ∷ p)) (a10 r) b n) all-tied in
      rw n (t.to, t.from))
      (decide (is Pre (r ∷ p) && a10 r))
