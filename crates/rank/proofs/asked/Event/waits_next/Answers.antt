-- Field by field.
-- Assumes nothing.
use Prim.Native.Nat.{ℕ, ◌+◌, max}
use mathlib.Core.Bool.{Bool}
use mathlib.Core.Path.{◌≡◌, ◌∙◌}
use mathlib.Core.List.{List, [], ◌∷◌, ◌++◌}
use lib.ListN.{get_or}
use Rattle.laws.specs.Eight.{table}
use Rattle.records.specs.declared.Record.{Record}
use Rattle.records.specs.declared.Command.{Command}
use Rattle.chip.specs.declared.Chip.{Chip}
use Rattle.chip.specs.declared.Regs.{Regs}
use Rattle.edges.specs.declared.Waits.{Waits}
use Rattle.edges.specs.Asks.{asks_act, asks_rd, asks_wr, asks_pre, asks_ref, asks_mrs, asks_sre, waits_next}
use Rattle.rank.proofs.asked.Event.waits_next.Goals as goal

join_is :
    (f g : ℕ → ℕ) (a b x : List ℕ) → a ≡ table f → b ≡ table g → x ≡ table (λ i. get_or a i 0) ++ table (λ i. get_or b i 0)
    → x ≡ table f ++ table g
unfolding table
join_is f g a b x p q is = is ∙ (λ i. table (λ j. get_or (p i) j 0) ++ table (λ j. get_or (q i) j 0))

waits-are :
    (C : Chip) (c : Command) (r : Record) (e : ℕ) (g : Regs) (start four : ℕ) (slow : Bool) (W : Waits)
    {act rds wrs col pre : List ℕ} {refs mrs sre h0 h1 h2 h3 : ℕ}
    → act ≡ table (λ b. max (get_or W.act b 0) (asks_act C c r e g start four slow b))
    → rds ≡ table (λ b. max (get_or W.col b 0) (asks_rd C c r e g start four slow b))
    → wrs ≡ table (λ b. max (get_or W.col (b + 8) 0) (asks_wr C c r e g start four slow b))
    → col ≡ table (λ i. get_or rds i 0) ++ table (λ i. get_or wrs i 0)
    → pre ≡ table (λ b. max (get_or W.pre b 0) (asks_pre C c r e g start four slow b))
    → refs ≡ asks_ref C c r e g start four slow → mrs ≡ asks_mrs C c r e g start four slow → sre ≡ asks_sre C c r e g start four slow
    → h0 ≡ max (get_or W.holds 0 0) refs → h1 ≡ max (get_or W.holds 1 0) mrs
    → h2 ≡ max (get_or W.holds 2 0) refs → h3 ≡ max (get_or W.holds 3 0) sre
    → record { act = act; col = col; pre = pre; holds = h0 ∷ h1 ∷ h2 ∷ h3 ∷ [] } ≡ waits_next C c r e g start four slow W
unfolding waits_next
waits-are C c r e g start four slow W bs ds ws cs ps fs ms ss e0 e1 e2 e3 =
    let js = join_is _ _ _ _ _ ds ws cs in
    let f0 = e0 ∙ (λ i. max (get_or W.holds 0 0) (fs i)) in
    let f1 = e1 ∙ (λ i. max (get_or W.holds 1 0) (ms i)) in
    let f2 = e2 ∙ (λ i. max (get_or W.holds 2 0) (fs i)) in
    let f3 = e3 ∙ (λ i. max (get_or W.holds 3 0) (ss i)) in
    λ i. record { act = bs i; col = js i; pre = ps i; holds = f0 i ∷ f1 i ∷ f2 i ∷ f3 i ∷ [] }

pub returns : goal.returns
unfolding table
returns c =
    let s = c.args.self in
    waits-are s.chip s.c s.r s.e s.g s.start s.four s.slow c.args.w
    c.act_waits.ensures c.rd_waits.ensures c.wr_waits.ensures c.joined.ensures c.pre_waits.ensures
    c.asks_ref-refs.ensures c.asks_mrs.ensures c.asks_sre.ensures c.max.ensures c.max-2.ensures c.max-3.ensures c.max-4.ensures
