-- What the program prints, as the codes of its characters. "Output, in decimal: H rank from 1, docid, score; I first, last, ceiling, mark as a word
-- (`skipped` or `opened`); B blocks opened, blocks in all. A refusal prints only `R number offset`." Assumes nothing.
use Rattle.std.specs.Prelude.{ℕ, zero, suc, ◌+◌, ◌-◌, ◌/◌, ◌%◌, List, [], ◌∷◌, ◌++◌, cond, ltb, eqb}
use Prim.Native.Char.{code}
use Prim.Native.String.{String, [] as none, ◌∷◌ as ◌and◌}
use Rattle.model.specs.Limits.{max_docid}
use Rattle.model.specs.Outcome.{Outcome, refused, done}
use Rattle.rank.specs.Rank.{Hit}

-- a quoted text's codes
abbrev pub codes : String → List ℕ
codes none = []
codes (c and s) = code c ∷ codes s

-- the decimal digits of a number, of which there are at most `most`; the code of the digit 0 is 48
unfoldable pub digits : (most : ℕ) → ℕ → List ℕ
digits zero n = []
digits (suc most) n = cond (ltb n 10) ((48 + n) ∷ []) (digits most (n / 10) ++ ((48 + n % 10) ∷ []))

-- twenty digits are enough for every 64-bit number
unfoldable pub decimal : ℕ → List ℕ
decimal n = digits 20 n

-- each number with a blank in front
unfoldable pub numbers : List ℕ → List ℕ
numbers [] = []
numbers (n ∷ ns) = (codes " " ++ decimal n) ++ numbers ns

-- a line: its letter, its numbers, and how it ends
unfoldable pub line : (letter : List ℕ) (ns : List ℕ) (end : List ℕ) → List ℕ
line letter ns end = letter ++ (numbers ns ++ end)

-- "H rank from 1, docid, score"
abbrev pub hit_line : (rank : ℕ) → Hit → List ℕ
hit_line rank h = line (codes "H") (rank ∷ h.doc ∷ h.score ∷ []) (codes "\n")

-- the hits from this rank on
unfoldable pub hit_lines : (rank : ℕ) → List Hit → List ℕ
hit_lines rank [] = []
hit_lines rank (h ∷ hs) = hit_line rank h ++ hit_lines (rank + 1) hs

-- "mark (0 skipped, 1 opened)"; a search that stops, with the marks 2 and 3, is a refusal and prints no interval
abbrev pub word : ℕ → String
word mark = cond (eqb mark 1) " opened\n" " skipped\n"

-- "I first, last, ceiling, mark as a word"
abbrev pub interval_line : (first last ceiling mark : ℕ) → List ℕ
interval_line first last ceiling mark = line (codes "I") (first ∷ last ∷ ceiling ∷ []) (codes (word mark))

-- the last docid of an interval, by the first docids of those past it: "The stretches between cuts partition 1 to 16,777,215"
abbrev pub last_of : (lim : ℕ) → List ℕ → ℕ
last_of lim [] = lim
last_of lim (next ∷ firsts) = next - 1

-- "The book has one row per interval in three lent runs: first docid, ceiling, mark"
unfoldable pub interval_lines : (lim : ℕ) (firsts ceilings marks : List ℕ) → List ℕ
interval_lines lim (f ∷ fs) (c ∷ cs) (m ∷ ms) = interval_line f (last_of lim fs) c m ++ interval_lines lim fs cs ms
interval_lines lim (f ∷ fs) (c ∷ cs) [] = []
interval_lines lim (f ∷ fs) [] ms = []
interval_lines lim [] cs ms = []

-- "B blocks opened, blocks in all"
abbrev pub block_line : (opened all : ℕ) → List ℕ
block_line opened all = line (codes "B") (opened ∷ all ∷ []) (codes "\n")

-- "A refusal prints only `R number offset`."
abbrev pub refusal_line : (number offset : ℕ) → List ℕ
refusal_line number offset = line (codes "R") (number ∷ offset ∷ []) (codes "\n")

-- what a search that is done shows: its hits, its book, the blocks opened and the blocks in all
pub record Shown : Type 0 where
  pub hits : List Hit
  pub firsts : List ℕ
  pub ceilings : List ℕ
  pub marks : List ℕ
  pub opened : ℕ
  pub all : ℕ

abbrev pub shown : (hits : List Hit) (firsts ceilings marks : List ℕ) (opened all : ℕ) → Shown
shown hs fs cs ms opened all = record { hits = hs; firsts = fs; ceilings = cs; marks = ms; opened = opened; all = all }

-- the whole output
abbrev pub text : Outcome Shown → List ℕ
text (refused number offset) = refusal_line number offset
text (done x) = hit_lines 1 x.hits ++ (interval_lines max_docid x.firsts x.ceilings x.marks ++ block_line x.opened x.all)
