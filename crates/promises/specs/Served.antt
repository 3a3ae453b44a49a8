-- "On a sound shelf a query without fault, with room enough". Assumes nothing.
use Rattle.std.specs.Prelude.{ℕ, ◌-◌, ◌≤◌, ◌≡◌, List, map, length, take, drop}
use Rattle.model.specs.Outcome.{done}
use Rattle.model.specs.Runs.{Bytes}
use Rattle.shelf.specs.Walk as shelf
use Rattle.shelf.specs.Check.{checked}
use Rattle.query.specs.Query.{Question, asked}
use Rattle.rank.specs.Rank.{Hit}
use Rattle.rank.specs.Match.{any_list, hits_of}
use Rattle.prune.specs.Cut.{Listing, starts}
use Rattle.exhaustive.specs.Lists.{listings_of, term_on}

-- the query's lists, with their blocks
abbrev pub lists_for : Question → List shelf.Listing → List Listing
lists_for x ls = listings_of x.terms ls

-- how many intervals they cut the sheet numbers into
abbrev pub interval_count : Question → List shelf.Listing → ℕ
interval_count x ls = length (starts 16777215 (lists_for x ls))

-- "A document matches when some query list holds it. Its score is the sum of weight times stored score.": all matches on the shelf
abbrev pub matches_for : Question → List shelf.Listing → List Hit
matches_for x ls = hits_of any_list (map (term_on ls) x.terms)

-- the shelf is sound and holds the lists ls, and the query is without fault and asks x; both are bytes, as every lent slice of them is
pub record Asks (q s : List ℕ) (x : Question) (ls : List shelf.Listing) : Type 0 where
  pub query-bytes : Bytes q
  pub shelf-bytes : Bytes s
  pub sound : checked s ≡ done ls
  pub faultless : asked q ≡ done x

-- "room enough": a row for each of k hits, and in each of the book's runs a row for each interval
pub record Room (x : Question) (ls : List shelf.Listing) (rows : ℕ) (fs cs ms : List ℕ) : Type 0 where
  pub hits : x.k ≤ rows
  pub firsts : interval_count x ls ≤ length fs
  pub ceilings : interval_count x ls ≤ length cs
  pub marks : interval_count x ls ≤ length ms

-- the bytes of a list as they stand in its shelf
abbrev pub bytes_of : List ℕ → shelf.Listing → List ℕ
bytes_of s l = take (l.place.next - l.place.at) (drop l.place.at s)
