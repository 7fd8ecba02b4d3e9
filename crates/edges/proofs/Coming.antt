-- A seldom command that may come: the step is what it leaves behind.
-- Assumes nothing.
use Prim.Native.Nat.{ℕ, zero, suc, ◌+◌, ◌≤◌, ◌<◌, max}
use native.Mathlib.Omega.{arith}
use mathlib.Core.Bool.{Bool, true}
use mathlib.Core.List.{List}
use mathlib.Core.Logic.{inl, inr, ⊎_elim}
use mathlib.Core.Path.{◌≡◌, refl, ◌∙◌}
use lib.ListN.{get_or}
use borrow.Author.Tests.{eq-eqb}
use Rattle.laws.specs.Eight.{table}
use Rattle.laws.proofs.Eight.{get_or-table}
use Rattle.records.specs.declared.Record.{Record}
use Rattle.records.specs.declared.Command.{Command}
use Rattle.records.specs.declared.Command.TheVariants.{Mrs, Ref, Pre, Act, Wr, Rd, Zq, Nop, Des, Sre, Srx, Low, Bad, Pde, Pdx}
use Rattle.records.specs.Command.{a10}
use Rattle.chip.specs.declared.Chip.{Chip}
use Rattle.edges.specs.declared.Waits.{Waits}
use Rattle.edges.specs.declared.Floor.{Floor}
use Rattle.edges.specs.declared.Rank.{Rank}
use Rattle.edges.specs.Asks.{greatest, wait_for}
use Rattle.edges.specs.Next.{slow_now, device_next, debt_next}
use Rattle.edges.specs.Says.{command_in}
use Rattle.edges.specs.Step.{moved_of, step_of}
use Rattle.edges.specs.Floors.{under, settled}
use Rattle.edges.specs.Ways.{floor_next}
use Rattle.edges.specs.Seldom.{Rested, MayCome}
use Rattle.edges.specs.Running.{Track, Rest, held_by, rank_of}
use Rattle.edges.specs.Lane.{Clear, rest_after, track_after}
use Rattle.edges.proofs.Easy.{NoneDue, NotOwed, NotLong, AllFine, says_none}
use Rattle.edges.proofs.Fine.{Idling, all-fine, ref-fine, zq-fine, mrs-fine, sre-fine, srx-fine, nop-fine, des-fine, low-fine, pde-fine, pdx-fine}
use Rattle.edges.proofs.Entering.{entered-fine}
use Rattle.edges.proofs.Ways.{Sized}
use Rattle.edges.proofs.Changing.{is-ref, is-zq, is-mrs, is-sre, is-srx, is-nop, is-des, is-low, is-pde, is-pdx, whole-moves, all-moves}

most-below : (xs : List ℕ) (n e : ℕ) → ((b : ℕ) → b < n → get_or xs b 0 ≤ e) → greatest xs n ≤ e
unfolding greatest
most-below xs zero e h = omega arith
most-below xs (suc n) e h = omega (arith, most-below xs n e (λ b l. h b (omega arith)), h n (omega arith))

-- the waiting times with the floor
module _ (f : Floor) (W : Waits) (r : Record) (e : ℕ) where
  pre-over : a10 r ≡ true → ((b : ℕ) → b < 8 → get_or W.pre b 0 ≤ e) → f.pre ≤ e → wait_for (under f W) Pre r ≤ e
  unfolding under
  pre-over z h l = rw z (most-below (table (λ b. max (get_or W.pre b 0) f.pre)) 8 e
      (λ b k. rw (get_or-table (λ b. max (get_or W.pre b 0) f.pre) b 0 k) (omega (arith, h b k))))

  ref_over : get_or W.holds 0 0 ≤ e → f.idle ≤ e → wait_for (under f W) Ref r ≤ e
  unfolding under
  ref_over h l = omega arith

  zq-over : get_or W.holds 2 0 ≤ e → f.idle ≤ e → wait_for (under f W) Zq r ≤ e
  unfolding under
  zq-over h l = omega arith

  mrs-over : get_or W.holds 1 0 ≤ e → f.idle ≤ e → f.out ≤ e → wait_for (under f W) Mrs r ≤ e
  unfolding under
  mrs-over h l m = omega arith

  sre-over : get_or W.holds 3 0 ≤ e → f.idle ≤ e → f.out ≤ e → wait_for (under f W) Sre r ≤ e
  unfolding under
  sre-over h l m = omega arith

module _ (C : Chip) (d : Rest) (t : Track) (r : Record) where
  abbrev e : ℕ
  e = t.edge + r.step

  abbrev n : ℕ
  n = t.count + 1

  abbrev s : Rank
  s = held_by d t

  abbrev f : Floor
  f = t.floor

  abbrev slow : Bool
  slow = slow_now t.banks d.device

  abbrev pub next_rest : Command → Rest
  next_rest c = rest_after C c r e n slow d

  abbrev pub next_track : Command → Track
  next_track c = track_after C c r e n slow t

  module _ (clear : ℕ) (free : Clear C clear d t) (clean : d.first.outcome ≡ 0) (before : e < clear) (size : Sized s.waits) where
    none-due : NoneDue C t.banks t.edge e
    none-due b l = ⊎_elim (λ x. inl x) (λ x. inr (omega (arith, x, before))) (free.due b l)

    not-owed : NotOwed d.debt e
    not-owed = ⊎_elim (λ x. inl x) (λ x. inr (omega (arith, x.0, before), omega (arith, x.1, before))) free.owed

    not-long : NotLong C (rank_of d t) e
    unfolding settled
    not-long = ⊎_elim (λ x. inl x) (λ x. inr (⊎_elim (λ y. inl y) (λ y. inr (omega (arith, y, before))) x)) free.stays

    step-moves : AllFine C (rank_of d t) r e → step_of C (rank_of d t) r ≡ moved_of C (rank_of d t) r
    unfolding step_of settled
    step-moves fine = rw (eq-eqb d.first.outcome 0 clean, says_none C (rank_of d t) r none-due not-owed not-long fine)

    idling : {a : ℕ} {b : ℕ} → Rested t.banks a b e → (x : ℕ) → x < 8 → Idling C t.banks x e
    idling q x l = (q.all.closed x l, q.all.over x l)

    abbrev May : Command → Type 0
    May c = MayCome C c r e f t.banks t.pre d.holds d.device

    fine-as : (c : Command) → command_in s r ≡ c → May c → AllFine C (rank_of d t) r e
    unfolding settled
    fine-as Pre h m = all-fine C (rank_of d t) r e h m.0 m.1.calm (pre-over f s.waits r e m.0 m.1.ready m.2)
    fine-as Ref h m = ref-fine C (rank_of d t) r e h (idling m) (ref_over f s.waits r e m.own m.starts)
    fine-as Zq h m = zq-fine C (rank_of d t) r e h (idling m) (zq-over f s.waits r e m.own m.starts)
    fine-as Mrs h m = mrs-fine C (rank_of d t) r e h (idling m.0) m.2 (mrs-over f s.waits r e m.0.own m.0.starts m.1)
    fine-as Sre h m = sre-fine C (rank_of d t) r e h (idling m.0) m.2 (sre-over f s.waits r e m.0.own m.0.starts m.1) m.3
    fine-as Srx h m = srx-fine C (rank_of d t) r e h m.0 m.1
    fine-as Nop h m = nop-fine C (rank_of d t) r e h
    fine-as Des h m = des-fine C (rank_of d t) r e h
    fine-as Low h m = low-fine C (rank_of d t) r e h
    fine-as Act h m = absurd m
    fine-as Rd h m = absurd m
    fine-as Wr h m = absurd m
    fine-as Bad h m = absurd m
    fine-as Pde h m = pde-fine C (rank_of d t) r e h (entered-fine C t.banks t.acts d.device e m.0) m.1
    fine-as Pdx h m = pdx-fine C (rank_of d t) r e h m

    -- a PRE leaves the debt and the device alone
    pre-same :
        settled (floor_next C Pre r slow e f)
        (record {
          edge = e;
          count = n;
          first = d.first;
          level = r.cke;
          debt = d.debt;
          banks = (next_track Pre).banks;
          waits = s.waits;
          acts = t.acts;
          device = d.device;
        })
        ≡ rank_of (next_rest Pre) (next_track Pre)
    unfolding debt_next device_next
    pre-same = refl

    pub seldom-step : (c : Command) → command_in s r ≡ c → May c → step_of C (rank_of d t) r ≡ rank_of (next_rest c) (next_track c)
    seldom-step Pre h m = step-moves (fine-as Pre h m) ∙ all-moves C s f r h m.0 ∙ pre-same
    seldom-step Ref h m = step-moves (fine-as Ref h m) ∙ whole-moves C s f r size Ref is-ref h
    seldom-step Zq h m = step-moves (fine-as Zq h m) ∙ whole-moves C s f r size Zq is-zq h
    seldom-step Mrs h m = step-moves (fine-as Mrs h m) ∙ whole-moves C s f r size Mrs is-mrs h
    seldom-step Sre h m = step-moves (fine-as Sre h m) ∙ whole-moves C s f r size Sre is-sre h
    seldom-step Srx h m = step-moves (fine-as Srx h m) ∙ whole-moves C s f r size Srx is-srx h
    seldom-step Nop h m = step-moves (fine-as Nop h m) ∙ whole-moves C s f r size Nop is-nop h
    seldom-step Des h m = step-moves (fine-as Des h m) ∙ whole-moves C s f r size Des is-des h
    seldom-step Low h m = step-moves (fine-as Low h m) ∙ whole-moves C s f r size Low is-low h
    seldom-step Act h m = absurd m
    seldom-step Rd h m = absurd m
    seldom-step Wr h m = absurd m
    seldom-step Bad h m = absurd m
    seldom-step Pde h m = step-moves (fine-as Pde h m) ∙ whole-moves C s f r size Pde is-pde h
    seldom-step Pdx h m = step-moves (fine-as Pdx h m) ∙ whole-moves C s f r size Pdx is-pdx h
