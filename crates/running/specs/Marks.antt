-- What is kept of a record that a rule counts from, and the check of one rule.
-- Assumes nothing.
use Rattle.std.specs.Prelude.{ℕ, ◌-◌, cond, eqb, ltb}
use Rattle.answers.specs.declared.Break.{Break}
use Rattle.answers.specs.declared.Break.TheVariants.{Broken}
use Rattle.running.specs.declared.Mark.{Mark}
use Rattle.running.specs.declared.Kept.{Kept}
use Rattle.running.specs.declared.Read.{Read}
use Rattle.running.specs.declared.Wrote.{Wrote}

-- no record yet: it needs 0 clocks, so it never breaks a rule
abbrev pub none : Mark
none = record { at = 0; num = 0; need = 0 }

abbrev pub empty : Kept
empty = record { acted = none; row = 0; read = none; wrote = none; shut = none }

-- the same record under a rule of another, constant need
unfoldable pub needing : ℕ → Mark → Mark
needing n m = record { at = m.at; num = m.num; need = cond (eqb m.num 0) 0 n }

-- rule k at edge e: broken if fewer clocks have passed since the mark than it needs
unfoldable pub spaced : (k e : ℕ) → Mark → Break → Break
spaced k e m otherwise = cond (ltb (e - m.at) m.need) (Broken k m.num m.need (e - m.at)) otherwise

-- the latest RD and WR under each rule
abbrev pub as10 : Read → Mark
as10 s = record { at = s.at; num = s.num; need = s.n10 }

abbrev pub as13 : Read → Mark
as13 s = record { at = s.at; num = s.num; need = s.n13 }

abbrev pub as19 : Read → Mark
as19 s = record { at = s.at; num = s.num; need = s.n19 }

abbrev pub as11 : Wrote → Mark
as11 s = record { at = s.at; num = s.num; need = s.n11 }

abbrev pub as14 : Wrote → Mark
as14 s = record { at = s.at; num = s.num; need = s.n14 }
