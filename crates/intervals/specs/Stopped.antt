-- A refusal before the search. Assumes nothing.
use Rattle.model.specs.declared.refusal.Refusal.{Refusal}
use Rattle.intervals.specs.declared.stopped.Stopped.{Stopped}

abbrev pub early : Refusal → Stopped
early r = record { refusal = r; intervals = 0 }
