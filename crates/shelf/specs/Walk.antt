-- The walk over a shelf: the first fault of number 6 or 7 in byte order, or the shelf's lists. `at` is always the offset in the shelf at which
-- the bytes s begin. Assumes nothing.
use Rattle.std.specs.Prelude.{ℕ, zero, suc, ◌+◌, ◌*◌, ◌-◌, List, [], ◌∷◌, ◌++◌, Bool, false, cond, ◌&&◌, leb, ltb, eqb, length, drop}
use Rattle.model.specs.Limits.{per_list, max_lists, max_shelf}
use Rattle.model.specs.Outcome.{Outcome, refused, done, and_then}
use Rattle.model.specs.Post.{Post}
use Rattle.wire.specs.Read.{Read, got, stopped}
use Rattle.wire.specs.Number.{num}
use Rattle.wire.specs.Field.{whole, field_len, field_value}
use Rattle.block.specs.Summary.{is_sum, sum_of, right_sum}
use Rattle.block.specs.Body.{is_strip, tag_of, body_posts}
use Rattle.block.specs.declared.summary.Summary.{Summary}
use Rattle.shelf.specs.declared.walk.Place.{Place}

-- a block: its summary with its body's layout, and the offset of the summary's tag; its body and the offset of the body's tag
pub record Block : Type 0 where
  pub at : ℕ
  pub sum : Summary
  pub body_at : ℕ
  pub body : List ℕ

-- a list: its term, its block count, where it begins and the place past it; and its blocks
pub record Listing : Type 0 where
  pub place : Place
  pub blocks : List Block

-- the postings of a block, none where its body does not read
abbrev pub read_or : Read (List Post) → List Post
read_or (got ps k) = ps
read_or (stopped k) = []

abbrev pub posts_of : List Block → List Post
posts_of [] = []
posts_of (b ∷ bs) = read_or (body_posts b.sum b.body) ++ posts_of bs

-- the layout of a list's bodies, which is the first one's
abbrev pub strip_of : List Block → Bool
strip_of [] = false
strip_of (b ∷ bs) = b.sum.strip

-- ---- "tag 01, length 5: term (4), block count (1)"

unfoldable pub head_term : List ℕ → ℕ
head_term s = num 4 (drop 3 s)

unfoldable pub head_count : List ℕ → ℕ
head_count s = num 1 (drop 7 s)

-- a header whose term is not below `floor` and whose block count is 1 to 64
unfoldable pub right_head : (floor : ℕ) → List ℕ → Bool
right_head floor s =
    whole 1 s && (eqb (field_len s) 5 && (leb floor (head_term s) && (ltb 0 (head_count s) && leb (head_count s) per_list)))

-- ---- "one tag 02 per block, length 9"; past a right summary it goes on from its greatest docid

unfoldable pub one_sum : (prev at : ℕ) → List ℕ → Outcome ℕ
one_sum prev at s = cond (is_sum s) (cond (right_sum prev (sum_of false s)) (done (sum_of false s).greatest) (refused 7 at)) (refused 6 at)

-- n summaries: the place past them
unfoldable pub sums : (n prev at : ℕ) → List ℕ → Outcome ℕ
sums zero prev at s = done at
sums (suc n) prev at s = and_then (one_sum prev at s) (λ greatest. sums n greatest (at + 12) (drop 12 s))

-- ---- "one tag 03 per block, in the same order"; "body lengths may be any"; "A body may now be tag 04"

unfoldable pub one_body : (strip : Bool) (at : ℕ) → List ℕ → Outcome ℕ
one_body strip at s = cond (whole (tag_of strip) s) (done (3 + field_len s)) (refused 6 at)

-- n bodies of one layout: the place past them
unfoldable pub bodies_of : (strip : Bool) (n at : ℕ) → List ℕ → Outcome ℕ
bodies_of strip zero at s = done at
bodies_of strip (suc n) at s = and_then (one_body strip at s) (λ k. bodies_of strip n (at + k) (drop k s))

-- "All bodies of a list have one tag", which is the first one's: "mixed tags in one list are 6"
unfoldable pub bodies : (n at : ℕ) → List ℕ → Outcome ℕ
bodies n at s = bodies_of (is_strip s) n at s

-- ---- the n blocks whose summaries begin with the bytes m, at a, and whose bodies with the bytes s, at b

unfoldable pub blocks_of : (n a : ℕ) → List ℕ → (b : ℕ) → List ℕ → List Block
blocks_of zero a m b s = []
blocks_of (suc n) a m b s =
    record { at = a; sum = sum_of (is_strip s) m; body_at = b; body = field_value s }
    ∷ blocks_of n (a + 12) (drop 12 m) (b + (3 + field_len s)) (drop (3 + field_len s) s)

-- the same at a place of the shelf, for a list that begins there
unfoldable pub blocks_at : List ℕ → (at n : ℕ) → List Block
blocks_at s at n = blocks_of n (at + 8) (drop (at + 8) s) (at + 8 + 12 * n) (drop (at + 8 + 12 * n) s)

-- ---- a list; lists in strictly rising term number, at most 1,024; a shelf

abbrev pub listed : (at next : ℕ) → List ℕ → Listing
listed at next s =
    record {
      place = record { term = head_term s; count = head_count s; at = at; next = next };
      blocks = blocks_of (head_count s) (at + 8) (drop 8 s) (at + 8 + 12 * head_count s) (drop (8 + 12 * head_count s) s);
    }

unfoldable pub list : (floor at : ℕ) → List ℕ → Outcome Listing
list floor at s =
    cond (right_head floor s)
    (and_then (sums (head_count s) 0 (at + 8) (drop 8 s)) (λ b.
    and_then (bodies (head_count s) b (drop (8 + 12 * head_count s) s)) (λ next. done (listed at next s))))
    (refused 6 at)

abbrev pub onto : Listing → Outcome (List Listing) → Outcome (List Listing)
onto l r = and_then r (λ ls. done (l ∷ ls))

unfoldable pub lists : (n floor at : ℕ) → List ℕ → Outcome (List Listing)
lists zero floor at [] = done []
lists zero floor at (b ∷ s) = refused 6 at
lists (suc n) floor at [] = done []
lists (suc n) floor at (b ∷ s) =
    and_then (list floor at (b ∷ s)) (λ l. onto l (lists n (l.place.term + 1) l.place.next (drop (l.place.next - at) (b ∷ s))))

-- "shelf over 1,048,576 bytes (offset 0)"
unfoldable pub walk : List ℕ → Outcome (List Listing)
walk s = cond (leb (length s) max_shelf) (lists max_lists 0 0 s) (refused 6 0)
