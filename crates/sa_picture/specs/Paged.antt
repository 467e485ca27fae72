-- What comes of an input: what is drawn of its trace, or the page of its workload and trace, or why there is none.
use Rattle.std.specs.Prelude.{◌≡◌, ◌⊎◌, ⊤, ℕ, ◌<◌, List, length}
use Rattle.sa_spaces.specs.Workload.{WorkloadView}
use Rattle.sa_base.specs.declared.package.RulesName.{RulesName}
use Rattle.sa_page.specs.Page.{IsPage, HasManyEvents}
use Rattle.sa_input.specs.declared.limits.TheConstants.{TRACE_LIMIT}
use Rattle.sa_input.specs.Refusals.{too_long}
use Rattle.sa_input.specs.Parts.{HasWorkload, HasBadWorkload, HasBadTrace}
use Rattle.sa_picture.specs.declared.request.Form.{Form}
use Rattle.sa_picture.specs.declared.request.Form.TheVariants.{Drawn, Page}
use Rattle.sa_picture.specs.declared.request.Request.{Request}
use Rattle.sa_picture.specs.declared.status.Status.{Status}
use Rattle.sa_picture.specs.declared.status.Status.TheVariants.{BadWorkload, BadTrace, TooMuch, OutOfMemory}
use Rattle.sa_workload.specs.Texts.{second_part}
use Rattle.sa_drawing.specs.declared.text.Drawing.{Drawing}
use Rattle.sa_drawing.specs.declared.text.NoDrawing.TheVariants as undrawn
use Rattle.sa_drawing.specs.Drawn.{IsDrawn, IsNotDrawn}
use Rattle.sa_picture.specs.Request.{part_of}

-- these bytes are the page of the workload and trace of the input
pub record IsPaged (rules : RulesName) (input text : List ℕ) : Type 0 where
  pub workload : WorkloadView
  pub has : HasWorkload input workload
  pub page : IsPage rules workload (second_part input) text

-- why there is no page
pub record HasTooMuch (input : List ℕ) : Type 0 where
  pub workload : WorkloadView
  pub has : HasWorkload input workload
  pub many : HasManyEvents (second_part input)

abbrev pub IsNotPaged : List ℕ → Status → Type 0
IsNotPaged input (BadWorkload bad) = HasBadWorkload input bad
IsNotPaged input (BadTrace bad) = ((TRACE_LIMIT < length input) × (bad ≡ too_long TRACE_LIMIT input)) ⊎ HasBadTrace input bad
IsNotPaged input TooMuch = HasTooMuch input
IsNotPaged input OutOfMemory = ⊤
IsNotPaged input other = ⊥

-- why nothing is drawn
abbrev pub HasNoDrawing : Drawing → Request → List ℕ → Status → Type 0
HasNoDrawing drawing r input (BadTrace bad) = IsNotDrawn drawing (part_of r) input (undrawn.BadTrace bad)
HasNoDrawing drawing r input TooMuch = IsNotDrawn drawing (part_of r) input undrawn.TooMuch
HasNoDrawing drawing r input OutOfMemory = ⊤
HasNoDrawing drawing r input other = ⊥

-- by the form
abbrev pub written_by : Form → Request → List ℕ → List ℕ → Type 0
written_by (Drawn drawing) r input text = IsDrawn drawing (part_of r) input text
written_by (Page rules) r input text = IsPaged rules input text

abbrev pub not_written_by : Form → Request → List ℕ → Status → Type 0
not_written_by (Drawn drawing) r input status = HasNoDrawing drawing r input status
not_written_by (Page rules) r input status = IsNotPaged input status

abbrev pub IsWritten : Request → List ℕ → List ℕ → Type 0
IsWritten r input text = written_by r.form r input text

abbrev pub IsNotWritten : Request → List ℕ → Status → Type 0
IsNotWritten r input status = not_written_by r.form r input status
