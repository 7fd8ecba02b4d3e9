-- The floor: what was asked of every bank since the section began. The loop raises it instead of eight numbers.
-- Assumes nothing.
use Rattle.std.specs.Prelude.{◌+◌, max, [], ◌∷◌, ◌++◌, get_or}
use Rattle.laws.specs.Eight.{table}
use Rattle.edges.specs.declared.Waits.{Waits}
use Rattle.edges.specs.declared.Floor.{Floor}
use Rattle.edges.specs.declared.Rank.{Rank}

abbrev pub no_floor : Floor
no_floor = record { act = 0; rd = 0; wr = 0; pre = 0; idle = 0; out = 0 }

-- the waits with the floor put in
unfoldable pub under : Floor → Waits → Waits
under f W =
    record {
      act = table (λ b. max (get_or W.act b 0) f.act);
      col = table (λ b. max (get_or W.col b 0) f.rd) ++ table (λ b. max (get_or W.col (b + 8) 0) f.wr);
      pre = table (λ b. max (get_or W.pre b 0) f.pre);
      holds =
          max (get_or W.holds 0 0) f.idle ∷ max (get_or W.holds 1 0) (max f.idle f.out) ∷ max (get_or W.holds 2 0) f.idle
          ∷ max (get_or W.holds 3 0) (max f.idle f.out) ∷ [];
    }

-- the rank with the floor put in
unfoldable pub settled : Floor → Rank → Rank
settled f s =
    record {
      edge = s.edge;
      count = s.count;
      first = s.first;
      level = s.level;
      debt = s.debt;
      banks = s.banks;
      waits = under f s.waits;
      acts = s.acts;
      device = s.device;
    }
