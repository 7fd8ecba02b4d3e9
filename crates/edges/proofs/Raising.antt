-- What a record asks, with the floor: the loop raises the floor and the record's own bank, and that is what all banks' waiting times become.
-- Assumes nothing.
use Prim.Native.Nat.{ℕ, ◌+◌, ◌<◌, max}
use native.Mathlib.Omega.{arith}
use mathlib.Core.Bool.{Bool, true, false, cond}
use mathlib.Core.List.{List, ◌∷◌, [], ◌++◌}
use mathlib.Core.Path.{◌≡◌, refl, ap, ◌∙◌}
use lib.Dec.{eqb}
use lib.ListN.{get_or, length}
use borrow.Author.Tests.{eqb-true}
use Rattle.laws.specs.Eight.{table}
use Rattle.laws.proofs.Eight.{get_or-table, table-ext}
use Rattle.records.specs.declared.Record.{Record}
use Rattle.records.specs.declared.Command.{Command}
use Rattle.chip.specs.declared.Chip.{Chip}
use Rattle.chip.specs.declared.Regs.{Regs}
use Rattle.edges.specs.declared.Waits.{Waits}
use Rattle.edges.specs.declared.Floor.{Floor}
use Rattle.edges.specs.Asks.{asks_act, asks_rd, asks_wr, asks_pre, asks_ref, asks_mrs, asks_sre, waits_next}
use Rattle.edges.specs.Floors.{under}
use Rattle.edges.specs.Ways.{raised_at}
use Rattle.edges.proofs.Lists.{get_d_set, get_or-low, get_or-high}

-- ── One number ──────────────────────────────────────────────────────────────────────────────

-- what was, with the floor, raised by what is asked: x to x' and the floor f to f'
abbrev pub Raised : (x f ask x' f' : ℕ) → Type 0
Raised x f ask x' f' = max (max x f) ask ≡ max x' f'

pub swap : (x f k a : ℕ) → max (max x f) (max k a) ≡ max (max x k) (max f a)
swap x f k a = omega arith

-- what is asked of a bank is k of its own and a of all
pub raised_by : (x f k a : ℕ) {ask x' f' : ℕ} → ask ≡ max k a → x' ≡ max x k → f' ≡ max f a → Raised x f ask x' f'
raised_by x f k a p q r = rw (p, q, r) (swap x f k a)

-- only of all
pub raised_all : (x f a : ℕ) {ask f' : ℕ} → ask ≡ a → f' ≡ max f a → Raised x f ask x f'
raised_all x f a p q = rw (p, q) (omega arith)

-- nothing
pub raised-none : (x f : ℕ) {ask : ℕ} → ask ≡ 0 → Raised x f ask x f
raised-none x f p = rw p (omega arith)

-- a place that a record's own bank is raised at
pub at_own : (xs : List ℕ) (i own b : ℕ) → i < length xs → get_or (raised_at xs i own) b 0 ≡ max (get_or xs b 0) (cond (eqb i b) own 0)
at_own xs i own b l = get_d_set xs i (max (get_or xs i 0) own) b 0 l ∙ go (eqb i b) refl
  where
    go : (x : Bool) → eqb i b ≡ x → cond x (max (get_or xs i 0) own) (get_or xs b 0) ≡ max (get_or xs b 0) (cond x own 0)
    go true e = ap (λ j. max (get_or xs j 0) own) (eqb-true i b e)
    go false e = omega arith

-- ── All numbers ─────────────────────────────────────────────────────────────────────────────

eight : (xs xs' : List ℕ) (f f' : ℕ) (ask : ℕ → ℕ) → ((b : ℕ) → b < 8 → Raised (get_or xs b 0) f (ask b) (get_or xs' b 0) f')
    → table (λ b. max (get_or (table (λ b. max (get_or xs b 0) f)) b 0) (ask b)) ≡ table (λ b. max (get_or xs' b 0) f')
eight xs xs' f f' ask h =
    table-ext _ _ (λ b l. ap (λ x. max x (ask b)) (get_or-table (λ b. max (get_or xs b 0) f) b 0 l) ∙ h b l)

sixteen :
    (xs xs' : List ℕ) (f f' g g' : ℕ) (ask bid : ℕ → ℕ) → ((b : ℕ) → b < 8 → Raised (get_or xs b 0) f (ask b) (get_or xs' b 0) f')
    → ((b : ℕ) → b < 8 → Raised (get_or xs (b + 8) 0) g (bid b) (get_or xs' (b + 8) 0) g')
    → table (λ b. max (get_or (table (λ b. max (get_or xs b 0) f) ++ table (λ b. max (get_or xs (b + 8) 0) g)) b 0) (ask b))
    ++ table (λ b. max (get_or (table (λ b. max (get_or xs b 0) f) ++ table (λ b. max (get_or xs (b + 8) 0) g)) (b + 8) 0) (bid b))
    ≡ table (λ b. max (get_or xs' b 0) f') ++ table (λ b. max (get_or xs' (b + 8) 0) g')
sixteen xs xs' f f' g g' ask bid h k = λ i. low i ++ high i
  where
    F : ℕ → ℕ
    F b = max (get_or xs b 0) f

    G : ℕ → ℕ
    G b = max (get_or xs (b + 8) 0) g

    low : table (λ b. max (get_or (table F ++ table G) b 0) (ask b)) ≡ table (λ b. max (get_or xs' b 0) f')
    low = table-ext _ _ (λ b l. ap (λ x. max x (ask b)) (get_or-low F G b 0 l) ∙ h b l)

    high : table (λ b. max (get_or (table F ++ table G) (b + 8) 0) (bid b)) ≡ table (λ b. max (get_or xs' (b + 8) 0) g')
    high = table-ext _ _ (λ b l. ap (λ x. max x (bid b)) (get_or-high F G b 0 l) ∙ k b l)

module _ (C : Chip) (c : Command) (r : Record) (e : ℕ) (g : Regs) (start four : ℕ) (slow : Bool) (f f' : Floor) (W W' : Waits) where
  -- the floor and the waits after the record, each number raised by what is asked of it
  pub record Raises : Type 0 where
    pub act : (b : ℕ) → b < 8 → Raised (get_or W.act b 0) f.act (asks_act C c r e g start four slow b) (get_or W'.act b 0) f'.act
    pub rd : (b : ℕ) → b < 8 → Raised (get_or W.col b 0) f.rd (asks_rd C c r e g start four slow b) (get_or W'.col b 0) f'.rd
    pub wr : (b : ℕ) → b < 8 → Raised (get_or W.col (b + 8) 0) f.wr (asks_wr C c r e g start four slow b) (get_or W'.col (b + 8) 0) f'.wr
    pub pre : (b : ℕ) → b < 8 → Raised (get_or W.pre b 0) f.pre (asks_pre C c r e g start four slow b) (get_or W'.pre b 0) f'.pre
    pub refresh : Raised (get_or W.holds 0 0) f.idle (asks_ref C c r e g start four slow) (get_or W'.holds 0 0) f'.idle
    pub mode : Raised (get_or W.holds 1 0) (max f.idle f.out) (asks_mrs C c r e g start four slow) (get_or W'.holds 1 0) (max f'.idle f'.out)
    pub zq : Raised (get_or W.holds 2 0) f.idle (asks_ref C c r e g start four slow) (get_or W'.holds 2 0) f'.idle
    pub sleep : Raised (get_or W.holds 3 0) (max f.idle f.out) (asks_sre C c r e g start four slow) (get_or W'.holds 3 0) (max f'.idle f'.out)

  pub waits-under : Raises → waits_next C c r e g start four slow (under f W) ≡ under f' W'
  unfolding waits_next under
  waits-under h = λ i. record {
    act = eight W.act W'.act f.act f'.act (asks_act C c r e g start four slow) h.act i;
    col = sixteen W.col W'.col f.rd f'.rd f.wr f'.wr (asks_rd C c r e g start four slow) (asks_wr C c r e g start four slow) h.rd h.wr i;
    pre = eight W.pre W'.pre f.pre f'.pre (asks_pre C c r e g start four slow) h.pre i;
    holds = h.refresh i ∷ h.mode i ∷ h.zq i ∷ h.sleep i ∷ [];
  }
