-- What a program says for its input: to standard output its answer, or to standard error that its input could not be read. Assumes nothing.
use Rattle.std.specs.Prelude.{ℕ, ◌≡◌, ◌≤◌, Bool, true, false, ◌&&◌, List, [], ◌++◌, leb, length, Option, Some, None, Result, Ok, Err}
use Rattle.std.specs.Borrow.{Bor, MutBor}
use Rattle.std.specs.Fn.{Once}
use Rattle.std.specs.Option.{is_some}
use Rattle.model.specs.Runs.{Holds}
use Rattle.lines.specs.Text.{codes}
use Rattle.lines.specs.Book.{max_output}
use Rattle.lines.specs.declared.said.Said.{Said}

-- one line, with the program's name
unfoldable pub unread : (name : List ℕ) → List ℕ
unread name = name ++ codes ": standard input could not be read\n"

-- the lent runs have room for every output, and for that line
unfoldable pub roomy : (name : List ℕ) (out err : ℕ) → Bool
roomy name out err = leb max_output out && leb (length (unread name)) err

-- what goes to standard output, and what to standard error
pub record Words : Type 0 where
  pub out : List ℕ
  pub err : List ℕ

abbrev pub words : (out err : List ℕ) → Words
words out err = record { out = out; err = err }

-- Without room nothing is said. An input that could not be read is no input: there is no answer, and a line on standard error. Otherwise the answer is all
abbrev pub words_of : (room read : Bool) (name answer : List ℕ) → Words
words_of false read name answer = words [] []
words_of true false name answer = words [] (unread name)
words_of true true name answer = words answer []

-- both runs hold what goes out at their fronts, and are as they were past it
pub record Says (w : Words) (out err out' err' : List ℕ) (r : Said) : Type 0 where
  pub output : Holds out w.out out' r.out
  pub error : Holds err w.err err' r.err

-- what a program of this name says with two lent runs, where the answer to its input is known
abbrev pub Speaks : (name : List ℕ) (read : Bool) (answer : List ℕ) (out err out' err' : List ℕ) (r : Said) → Type 0
Speaks name read answer out err out' err' r = Says (words_of (roomy name (length out) (length err)) read name answer) out err out' err' r

-- ---- the input, where it could be read

-- the bytes of an input that could be read; no bytes where it could not
abbrev pub input_of : Option (Bor (List ℕ)) → List ℕ
input_of (Some b) = b.now
input_of None = []

-- ---- before the answer

-- the input that is to be answered, or how many bytes go to standard error
abbrev pub start_of : (room : Bool) → Option (Bor (List ℕ)) → (name : List ℕ) → Result (Bor (List ℕ)) ℕ
start_of false input name = Err 0
start_of true None name = Err (length (unread name))
start_of true (Some b) name = Ok b

pub record Begun (name : List ℕ) (input : Option (Bor (List ℕ))) (room : ℕ) (err err' : List ℕ) (r : Result (Bor (List ℕ)) ℕ) : Type 0 where
  pub start : r ≡ start_of (roomy name room (length err)) input name
  pub line : Holds err (words_of (roomy name room (length err)) (is_some input) name []).err err' (length (words_of (roomy name room (length err)) (is_some input) name []).err)

-- ---- what answers

module _ {F : Type 0} (g : Once F (Bor (List ℕ) × (MutBor (List ℕ) × Unit {0})) (ℕ × (MutBor (List ℕ) × Unit {0}))) (f : F) where
  -- f may be asked for its answer where there is room for every output
  abbrev pub Asked : Type 0
  Asked = (i : Bor (List ℕ)) (o : MutBor (List ℕ)) → max_output ≤ length o.now → g.pre f (i, (o, tt))

  -- f puts this answer to an input at the front of a run
  abbrev pub Answers : (answer_to : List ℕ → List ℕ) → Type 0
  Answers answer_to = (i : Bor (List ℕ)) (o o' : MutBor (List ℕ)) (n : ℕ) → g.post f (i, (o, tt)) (n, (o', tt)) → Holds o.now (answer_to i.now) o'.now n

  -- what is said is the program's with the answer of f, whichever that is
  abbrev pub Speaks_with : (name : List ℕ) (input : Option (Bor (List ℕ))) (out err out' err' : List ℕ) (r : Said) → Type 0
  Speaks_with name input out err out' err' r = (answer_to : List ℕ → List ℕ) → Answers answer_to → Speaks name (is_some input) (answer_to (input_of input)) out err out' err' r

  -- what one call of f with this input and this run told, and what it left in the run
  pub record Answered (input : Bor (List ℕ)) (out out' : List ℕ) (n : ℕ) : Type 0 where
    pub shown : MutBor (List ℕ)
    pub shows : shown.now ≡ out
    pub left : MutBor (List ℕ)
    pub met : g.post f (input, (shown, tt)) (n, (left, tt))
    pub leaves : left.now ≡ out'

  -- without room, and where there is no input, what is said is known, whatever f is; otherwise it is what f answered, and nothing goes to standard error
  abbrev pub Responds_in : (room : Bool) (name : List ℕ) (input : Option (Bor (List ℕ))) (out err out' err' : List ℕ) (r : Said) → Type 0
  Responds_in false name input out err out' err' r = Says (words_of false (is_some input) name []) out err out' err' r
  Responds_in true name None out err out' err' r = Says (words_of true false name []) out err out' err' r
  Responds_in true name (Some b) out err out' err' r = Answered b out out' r.out × Holds err [] err' r.err

  abbrev pub Responds : (name : List ℕ) (input : Option (Bor (List ℕ))) (out err out' err' : List ℕ) (r : Said) → Type 0
  Responds name input out err out' err' r = Responds_in (roomy name (length out) (length err)) name input out err out' err' r
