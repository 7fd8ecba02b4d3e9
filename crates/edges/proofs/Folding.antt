-- The loop over a section: its beginning, its end, and one turn of each kind.
-- Assumes nothing.
use Prim.Native.Nat.{ℕ, ◌+◌, ◌-◌, ◌*◌, ◌/◌, ◌%◌, ◌≤◌, ◌<◌, max}
use native.Mathlib.Omega.{arith}
use native.Mathlib.Nat.{max-zero}
use mathlib.Core.Bool.{true, false, cond}
use mathlib.Core.List.{List, [], ◌∷◌, ◌++◌}
use mathlib.Core.Logic.{inr}
use mathlib.Core.Path.{◌≡◌, refl, sym, ap, ◌∙◌}
use lib.Dec.{eqb}
use lib.ListN.{get_or, length, drop}
use borrow.Author.Tests.{eq-eqb, ne_eqb}
use Rattle.laws.specs.Eight.{table}
use Rattle.records.specs.declared.Record.{Record}
use Rattle.records.specs.Record.{records, record_at, has_zero}
use Rattle.chip.specs.declared.Chip.{Chip}
use Rattle.running.specs.Ranges.{limit, last_edge, Small}
use Rattle.records.proofs.Records.{at-step, at-end}
use Rattle.edges.specs.declared.Rank.{Rank}
use Rattle.edges.specs.Folded.{Folded}
use Rattle.edges.specs.Step.{step_of, fold_of}
use Rattle.edges.specs.Floors.{no_floor, under, settled}
use Rattle.edges.specs.Running.{Track, rank_of, Standing, Along, rest_in}
use Rattle.edges.specs.Lane.{track_in}
use Rattle.edges.specs.Folding.{folded_from}

-- ── No floor ────────────────────────────────────────────────────────────────────────────────

-- a list of eight, place by place
eight_is : (xs : List ℕ) → length xs ≡ 8 → table (λ b. max (get_or xs b 0) 0) ≡ xs
unfolding table
eight_is (a ∷ b ∷ c ∷ d ∷ e ∷ f ∷ g ∷ h ∷ []) l =
    λ i. max-zero a i ∷ max-zero b i ∷ max-zero c i ∷ max-zero d i ∷ max-zero e i ∷ max-zero f i ∷ max-zero g i ∷ max-zero h i ∷ []
eight_is [] l = absurd (omega arith)
eight_is (a ∷ []) l = absurd (omega arith)
eight_is (a ∷ b ∷ []) l = absurd (omega arith)
eight_is (a ∷ b ∷ c ∷ []) l = absurd (omega arith)
eight_is (a ∷ b ∷ c ∷ d ∷ []) l = absurd (omega arith)
eight_is (a ∷ b ∷ c ∷ d ∷ e ∷ []) l = absurd (omega arith)
eight_is (a ∷ b ∷ c ∷ d ∷ e ∷ f ∷ []) l = absurd (omega arith)
eight_is (a ∷ b ∷ c ∷ d ∷ e ∷ f ∷ g ∷ []) l = absurd (omega arith)
eight_is (a ∷ b ∷ c ∷ d ∷ e ∷ f ∷ g ∷ h ∷ x ∷ xs) l = absurd (omega arith)

-- and one of sixteen
sixteen-is : (xs : List ℕ) → length xs ≡ 16 → table (λ b. max (get_or xs b 0) 0) ++ table (λ b. max (get_or xs (b + 8) 0) 0) ≡ xs
unfolding table
sixteen-is (a0 ∷ a1 ∷ a2 ∷ a3 ∷ a4 ∷ a5 ∷ a6 ∷ a7 ∷ a8 ∷ a9 ∷ a10 ∷ a11 ∷ a12 ∷ a13 ∷ a14 ∷ a15 ∷ []) l =
    λ i. max-zero a0 i ∷ max-zero a1 i ∷ max-zero a2 i ∷ max-zero a3 i ∷ max-zero a4 i ∷ max-zero a5 i ∷ max-zero a6 i ∷ max-zero a7 i ∷ max-zero a8 i ∷ max-zero a9 i ∷ max-zero a10 i ∷ max-zero a11 i ∷ max-zero a12 i ∷ max-zero a13 i ∷ max-zero a14 i ∷ max-zero a15 i ∷ []
sixteen-is ([]) l = absurd (omega arith)
sixteen-is (a0 ∷ []) l = absurd (omega arith)
sixteen-is (a0 ∷ a1 ∷ []) l = absurd (omega arith)
sixteen-is (a0 ∷ a1 ∷ a2 ∷ []) l = absurd (omega arith)
sixteen-is (a0 ∷ a1 ∷ a2 ∷ a3 ∷ []) l = absurd (omega arith)
sixteen-is (a0 ∷ a1 ∷ a2 ∷ a3 ∷ a4 ∷ []) l = absurd (omega arith)
sixteen-is (a0 ∷ a1 ∷ a2 ∷ a3 ∷ a4 ∷ a5 ∷ []) l = absurd (omega arith)
sixteen-is (a0 ∷ a1 ∷ a2 ∷ a3 ∷ a4 ∷ a5 ∷ a6 ∷ []) l = absurd (omega arith)
sixteen-is (a0 ∷ a1 ∷ a2 ∷ a3 ∷ a4 ∷ a5 ∷ a6 ∷ a7 ∷ []) l = absurd (omega arith)
sixteen-is (a0 ∷ a1 ∷ a2 ∷ a3 ∷ a4 ∷ a5 ∷ a6 ∷ a7 ∷ a8 ∷ []) l = absurd (omega arith)
sixteen-is (a0 ∷ a1 ∷ a2 ∷ a3 ∷ a4 ∷ a5 ∷ a6 ∷ a7 ∷ a8 ∷ a9 ∷ []) l = absurd (omega arith)
sixteen-is (a0 ∷ a1 ∷ a2 ∷ a3 ∷ a4 ∷ a5 ∷ a6 ∷ a7 ∷ a8 ∷ a9 ∷ a10 ∷ []) l = absurd (omega arith)
sixteen-is (a0 ∷ a1 ∷ a2 ∷ a3 ∷ a4 ∷ a5 ∷ a6 ∷ a7 ∷ a8 ∷ a9 ∷ a10 ∷ a11 ∷ []) l = absurd (omega arith)
sixteen-is (a0 ∷ a1 ∷ a2 ∷ a3 ∷ a4 ∷ a5 ∷ a6 ∷ a7 ∷ a8 ∷ a9 ∷ a10 ∷ a11 ∷ a12 ∷ []) l = absurd (omega arith)
sixteen-is (a0 ∷ a1 ∷ a2 ∷ a3 ∷ a4 ∷ a5 ∷ a6 ∷ a7 ∷ a8 ∷ a9 ∷ a10 ∷ a11 ∷ a12 ∷ a13 ∷ []) l = absurd (omega arith)
sixteen-is (a0 ∷ a1 ∷ a2 ∷ a3 ∷ a4 ∷ a5 ∷ a6 ∷ a7 ∷ a8 ∷ a9 ∷ a10 ∷ a11 ∷ a12 ∷ a13 ∷ a14 ∷ []) l = absurd (omega arith)
sixteen-is (a0 ∷ a1 ∷ a2 ∷ a3 ∷ a4 ∷ a5 ∷ a6 ∷ a7 ∷ a8 ∷ a9 ∷ a10 ∷ a11 ∷ a12 ∷ a13 ∷ a14 ∷ a15 ∷ x ∷ xs) l = absurd (omega arith)

four_is : (xs : List ℕ) → length xs ≡ 4 → max (get_or xs 0 0) 0 ∷ max (get_or xs 1 0) 0 ∷ max (get_or xs 2 0) 0 ∷ max (get_or xs 3 0) 0 ∷ [] ≡ xs
four_is (a ∷ b ∷ c ∷ d ∷ []) l = λ i. max-zero a i ∷ max-zero b i ∷ max-zero c i ∷ max-zero d i ∷ []
four_is [] l = absurd (omega arith)
four_is (a ∷ []) l = absurd (omega arith)
four_is (a ∷ b ∷ []) l = absurd (omega arith)
four_is (a ∷ b ∷ c ∷ []) l = absurd (omega arith)
four_is (a ∷ b ∷ c ∷ d ∷ x ∷ xs) l = absurd (omega arith)

-- the lengths of the arrays that the loop goes by
pub record Lengths (t : Track) : Type 0 where
  pub act : length t.act ≡ 8
  pub col : length t.col ≡ 16
  pub pre : length t.pre ≡ 8
  pub acted : length t.banks.actat ≡ 8
  pub num : length t.banks.actno ≡ 8
  pub shut : length t.banks.shutat ≡ 8
  pub by : length t.banks.shutno ≡ 8
  pub ring : length t.acts.at ≡ 4

pub record Whole (s : Rank) : Type 0 where
  pub track : Lengths (track_in s)
  pub holds : length s.waits.holds ≡ 4

pub no-floor : (s : Rank) → Whole s → settled no_floor s ≡ s
unfolding settled under
no-floor s h = λ i. record {
  edge = s.edge;
  count = s.count;
  first = s.first;
  level = s.level;
  debt = s.debt;
  banks = s.banks;
  waits =
      record {
        act = eight_is s.waits.act h.track.act i;
        col = sixteen-is s.waits.col h.track.col i;
        pre = eight_is s.waits.pre h.track.pre i;
        holds = four_is s.waits.holds h.holds i;
      };
  acts = s.acts;
  device = s.device;
}

-- ── A rank taken apart ──────────────────────────────────────────────────────────────────────

-- where the loop stands, with no word of a deadline
pub stand-at :
    (C : Chip) (bytes : List ℕ) (at : ℕ) (t : Track) → Small C → at ≤ length bytes → (length bytes - at) % 6 ≡ 0 → t.edge ≤ t.count * 16777216
    → t.count + (length bytes - at) / 6 ≤ limit → t.acts.turn ≤ 3 → ((b : ℕ) → b < 8 → get_or t.banks.actat b 0 ≤ last_edge)
    → ((i : ℕ) → i < 4 → get_or t.acts.at i 0 ≤ last_edge) → Lengths t → Standing C 0 bytes at t
stand-at C bytes at t small within sixes edge room turn acted ring l = record {
  small = small;
  within = within;
  sixes = sixes;
  edge = edge;
  room = room;
  turn = turn;
  acted = acted;
  ring = ring;
  acting = λ z. absurd (omega arith);
  due = λ b z. inr (omega arith);
  soon = omega arith;
  actsize = l.act;
  colsize = l.col;
  presize = l.pre;
  actedsize = l.acted;
  numsize = l.num;
  shutsize = l.shut;
  bysize = l.by;
  ringsize = l.ring;
}

pub stand-sizes : {C : Chip} {clear : ℕ} {bytes : List ℕ} {at : ℕ} {t : Track} → Standing C clear bytes at t → Lengths t
stand-sizes b = record {
  act = b.actsize;
  col = b.colsize;
  pre = b.presize;
  acted = b.actedsize;
  num = b.numsize;
  shut = b.shutsize;
  by = b.bysize;
  ring = b.ringsize;
}

pub apart : (s : Rank) → Whole s → rank_of (rest_in s) (track_in s) ≡ s
apart s h = no-floor s h

module _ (C : Chip) (bytes : List ℕ) where
  pub along-none : (n : Rank) (at : ℕ) (n' : Rank) → n' ≡ n → Along C bytes n at n' at
  along-none n at n' e = record { same = ap (λ x. fold_of C x (records (drop at bytes))) e; zero = refl }

  pub along-also : {n n' n'' : Rank} {at at' at'' : ℕ} → Along C bytes n at n' at' → Along C bytes n' at' n'' at'' → Along C bytes n at n'' at''
  along-also a b = record { same = b.same ∙ a.same; zero = b.zero ∙ a.zero }

  -- one record
  pub along_one : (n n' : Rank) (at : ℕ) (r : Record) → at + 6 ≤ length bytes → r ≡ record_at bytes at → (r.step ≡ 0 → ⊥) → step_of C n r ≡ n' → Along C bytes n at n' (at + 6)
  along_one n n' at r le is some step = record {
    same = ap (λ x. fold_of C x (records (drop (at + 6) bytes))) (sym step) ∙ ap (λ x. fold_of C (step_of C n x) (records (drop (at + 6) bytes))) is
        ∙ sym (ap (fold_of C n) (at-step bytes at le));
    zero = sym (ap has_zero (at-step bytes at le) ∙ zero-on);
  }
    where
      zero-on : cond (eqb (record_at bytes at).step 0) true (has_zero (records (drop (at + 6) bytes))) ≡ has_zero (records (drop (at + 6) bytes))
      zero-on = rw (ne_eqb (record_at bytes at).step 0 (λ z. some (rw is z)))

  -- what is left gives the answer
  pub answer-from : (s n : Rank) (at : ℕ) → Along C bytes s 0 n at → folded_from C s n bytes at ≡ folded_from C s s bytes 0
  answer-from s n at a = λ i. cond (a.zero i) (record { zero = true; rank = s }) (record { zero = false; rank = a.same i })

  pub answer-end : (s n : Rank) (at : ℕ) → Along C bytes s 0 n at → length bytes ≤ at → ◌≡◌ {A = Folded} (record { zero = false; rank = n }) (folded_from C s s bytes 0)
  answer-end s n at a l = here ∙ answer-from s n at a
    where
      here : ◌≡◌ {A = Folded} (record { zero = false; rank = n }) (folded_from C s n bytes at)
      here = rw (at-end bytes at l)

  -- a step of 0 is next
  pub answer-zero : (s n : Rank) (at : ℕ) (r : Record) → Along C bytes s 0 n at → at + 6 ≤ length bytes → r ≡ record_at bytes at → r.step ≡ 0
      → ◌≡◌ {A = Folded} (record { zero = true; rank = s }) (folded_from C s s bytes 0)
  answer-zero s n at r a le is z =
      here ∙ answer-from s n at a
    where
      zero-now : has_zero (records (drop at bytes)) ≡ true
      zero-now = rw (at-step bytes at le, eq-eqb (record_at bytes at).step 0 (ap (λ (x : Record). x.step) (sym is) ∙ z))

      here : ◌≡◌ {A = Folded} (record { zero = true; rank = s }) (folded_from C s n bytes at)
      here = rw zero-now
