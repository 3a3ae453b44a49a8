-- How long the whole output is at most, line by line. Assumes nothing.
use Prim.Native.Nat.{ℕ, ◌+◌, ◌*◌, ◌^◌, ◌≤◌, ◌<◌}
use native.Mathlib.Omega.{arith}
use mathlib.Core.Path.{◌≡◌}
use mathlib.Core.List.{List, [], ◌∷◌, ◌++◌}
use lib.Dec.{eqb}
use lib.ListN.{length, length-append}
use Rattle.model.specs.Limits.{max_docid}
use Rattle.model.specs.Outcome.{done}
use Rattle.model.specs.Runs.{All}
use Rattle.model.proofs.Lists.{split}
use Rattle.rank.specs.Rank.{Hit}
use Rattle.lines.specs.Text.{codes, word, hit_line, hit_lines, interval_line, interval_lines, last_of, block_line, refusal_line, Shown, text}
use Rattle.lines.specs.Book.{Small, max_output}
use Rattle.lines.proofs.Decimals.{numbers-short, numbers-most}
use Rattle.lines.proofs.Lines.{line-size}

-- a number of 32 bits has ten digits at most
abbrev Small32 : ℕ → Type 0
Small32 n = n < 2 ^ 32

-- "H rank docid score", of any numbers: none has more than twenty digits
pub hit_short : (rank : ℕ) (h : Hit) → length (hit_line rank h) ≤ 65
hit_short rank h =
    let ns : List ℕ = rank ∷ h.doc ∷ h.score ∷ [] in
    omega (arith, line-size (codes "H") ns (codes "\n"), numbers-most ns)

pub hits-short : (rank : ℕ) (hs : List Hit) → length (hit_lines rank hs) ≤ 65 * length hs
unfolding hit_lines
hits-short rank [] = omega arith
hits-short rank (h ∷ hs) =
    omega (arith, length-append (hit_line rank h) (hit_lines (rank + 1) hs), hit_short rank h, hits-short (rank + 1) hs)

word-short : (mark : ℕ) → length (codes (word mark)) ≤ 9
word-short mark = split (eqb mark 1) (λ e. rw e (omega arith)) (λ e. rw e (omega arith))

-- "I first last ceiling mark"
pub interval-short : (first last ceiling mark : ℕ) → Small32 first → Small32 last → Small32 ceiling → length (interval_line first last ceiling mark) ≤ 43
interval-short first last ceiling mark f l c =
    let ns : List ℕ = first ∷ last ∷ ceiling ∷ [] in
    omega (arith, line-size (codes "I") ns (codes (word mark)), numbers-short 9 ns (omega arith, (omega arith, (omega arith, tt))), word-short mark)

last-small : (lim : ℕ) (fs : List ℕ) → Small32 lim → All Small32 fs → Small32 (last_of lim fs)
last-small lim [] l all = l
last-small lim (f ∷ fs) l all = omega (arith, all.0)

pub intervals-short : (lim : ℕ) (fs cs ms : List ℕ) → Small32 lim → All Small32 fs → All Small32 cs → length (interval_lines lim fs cs ms) ≤ 43 * length fs
unfolding interval_lines
intervals-short lim [] cs ms l f c = omega arith
intervals-short lim (x ∷ fs) [] ms l f c = omega arith
intervals-short lim (x ∷ fs) (y ∷ cs) [] l f c = omega arith
intervals-short lim (x ∷ fs) (y ∷ cs) (m ∷ ms) l f c =
    omega (
      arith,
      length-append (interval_line x (last_of lim fs) y m) (interval_lines lim fs cs ms),
      interval-short x (last_of lim fs) y m f.0 (last-small lim fs l f.1) c.0,
      intervals-short lim fs cs ms l f.1 c.1,
    )

-- "B opened all"
pub blocks-short : (opened all : ℕ) → length (block_line opened all) ≤ 44
blocks-short opened all = omega (arith, line-size (codes "B") (opened ∷ all ∷ []) (codes "\n"), numbers-most (opened ∷ all ∷ []))

-- "R number offset"
pub refusal-short : (number offset : ℕ) → length (refusal_line number offset) ≤ 44
refusal-short number offset = omega (arith, line-size (codes "R") (number ∷ offset ∷ []) (codes "\n"), numbers-most (number ∷ offset ∷ []))

-- the length of a text by its three parts
pub text-size : (x : Shown) →
    length (text (done x)) ≡ length (hit_lines 1 x.hits) + (length (interval_lines max_docid x.firsts x.ceilings x.marks) + length (block_line x.opened x.all))
text-size x =
    let rows = interval_lines max_docid x.firsts x.ceilings x.marks in
    let blocks = block_line x.opened x.all in
    omega (arith, length-append (hit_lines 1 x.hits) (rows ++ blocks), length-append rows blocks)

-- every output has room in 65,536 bytes
pub text-short : (x : Shown) → Small x → length (text (done x)) ≤ max_output
text-short x s =
    omega (
      arith,
      text-size x,
      hits-short 1 x.hits,
      intervals-short max_docid x.firsts x.ceilings x.marks (omega arith) s.first s.ceiling,
      blocks-short x.opened x.all,
      s.few,
      s.rows,
    )
