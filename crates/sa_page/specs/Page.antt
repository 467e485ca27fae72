-- The text of a page: what every page has, and between it what is said of the whole trace, the workload, the trace with its words, and
-- what the cells hold.
use Rattle.std.specs.Prelude.{◌≡◌, ⊤, ℕ, ◌<◌, ◌≤◌, Bool, false, List, [], ◌∷◌, ◌++◌, length, codes, Option, Some, None, Ok, Err}
use Rattle.sa_base.specs.declared.number.ProcNo.{ProcNo}
use Rattle.sa_base.specs.declared.record.Item.{Item}
use Rattle.sa_instr.specs.declared.instr.Instr.{Instr}
use Rattle.sa_spaces.specs.Workload.{WorkloadView}
use Rattle.sa_trace.specs.Reading.{Told, read_of}
use Rattle.sa_trace.specs.TraceText.{line_of}
use Rattle.sa_workload.specs.Text.{text_of as workload_text}
use Rattle.sa_laws.specs.Event.{events_of}
use Rattle.sa_laws.specs.Life.{Life}
use Rattle.sa_base.specs.declared.package.RulesName.{RulesName}
use Rattle.sa_ranks.specs.Packages.{rules_named}
use Rattle.sa_check.specs.declared.verdict.Verdict.{Verdict}
use Rattle.sa_check.specs.Verdict.{IsVerdict, last_line}
use Rattle.sa_check_moment.specs.Seen.{opened}
use Rattle.sa_check_lives.specs.View.{LivesView, no_lives, life_if_at, running_at}
use Rattle.sa_check_lives.specs.Recorded.{recorded}
use Rattle.sa_cells.specs.Words.{words_of}
use Rattle.sa_cells.specs.Change.{opening_lines}
use Rattle.sa_page.specs.declared.page.PageError.{PageError}
use Rattle.sa_page.specs.declared.page.PageError.TheVariants.{BadTrace, TooMuch, OutOfMemory}
use Rattle.sa_page.specs.declared.page.TheConstants.{MAX_EVENTS}
use Rattle.sa_page.specs.declared.shell.TheConstants.{SAID, WORKLOAD, TRACE, CELLS}
use Rattle.sa_page.specs.Shell.{front, back}
use Rattle.sa_page.specs.Said.{verdict_said}
use Rattle.sa_page.specs.Failing.{SaysFailing}
use Rattle.sa_page.specs.Ended.{SaysEnd}
use Rattle.sa_programs.specs.Programs.{first_programs, instr_in, programs_after}
use Rattle.sa_page.specs.Shown.{Shows}

-- the line of an item, and its words
unfoldable pub item_text : Bool → Option Instr → Item → List ℕ
item_text in_copy instr i = line_of i ++ words_of in_copy instr i.what ++ codes "\n"

-- each item, with the instruction that it runs, and whether the life that runs on its processor is in the copy of a section: that is read of the
-- lives after the items before it, for which neither the threads that an instruction rouses nor what a lock is for matters
abbrev pub is_copying : Option Life → Bool
is_copying None = false
is_copying (Some life) = life.cont

abbrev pub in_copy_on : LivesView → ProcNo → Bool
in_copy_on v p = is_copying (life_if_at v (running_at v p))

abbrev pub lives_behind : LivesView → Item → LivesView
lives_behind v i = recorded [] false i.proc i.what v

abbrev pub items_text : WorkloadView → LivesView → List (List ℕ) → List Item → List ℕ
items_text w v programs [] = []
items_text w v programs (i ∷ is) =
    item_text (in_copy_on v i.proc) (instr_in w programs i.what) i ++ items_text w (lives_behind v i) (programs_after w programs i.what) is

abbrev pub said : WorkloadView → List Item → List ℕ
said w items = items_text w (no_lives w.processors (length w.spaces)) (first_programs (length w.spaces)) items

-- what is said of the whole trace; the workload and the trace
unfoldable pub said_part : (verdict failing end : List ℕ) → List ℕ
said_part verdict failing end = SAID.now ++ verdict ++ failing ++ end

unfoldable pub texts_part : (workload trace : List ℕ) → List ℕ
texts_part workload trace = WORKLOAD.now ++ workload ++ TRACE.now ++ trace

-- the whole page, of what its parts are
unfoldable pub page_text : (verdict failing end workload trace opening shown : List ℕ) → List ℕ
page_text verdict failing end workload trace opening shown =
    front ++ said_part verdict failing end ++ texts_part workload trace ++ CELLS.now ++ opening ++ shown ++ back

-- the text is that of the page with this verdict
pub record IsPrinted (rules : RulesName) (w : WorkloadView) (verdict : Verdict) (told : Told) (text : List ℕ) : Type 0 where
  pub shown : List ℕ
  pub shows : Shows (opened rules w) [] (events_of told.items) shown
  pub failing : List ℕ
  pub fails : SaysFailing (opened rules w) verdict (events_of told.items) failing
  pub end : List ℕ
  pub ends : SaysEnd (opened rules w) told.end told.events (events_of told.items) end
  pub is : text ≡ page_text (verdict_said rules verdict) failing end (workload_text w) (said w told.items) (opening_lines (opened rules w)) shown

-- the text is the page of this workload and trace text, by these rules
pub record IsPage (rules : RulesName) (w : WorkloadView) (trace text : List ℕ) : Type 0 where
  pub told : Told
  pub read : read_of trace ≡ Ok told
  pub few : told.events ≤ MAX_EVENTS
  pub verdict : Verdict
  pub holds : IsVerdict (rules_named rules) w told.items (last_line told) verdict
  pub printed : IsPrinted rules w verdict told text

-- a trace of more events than a page may have
pub record HasManyEvents (trace : List ℕ) : Type 0 where
  pub told : Told
  pub read : read_of trace ≡ Ok told
  pub many : MAX_EVENTS < told.events

-- why there is no page
abbrev pub HasNoPage : List ℕ → PageError → Type 0
HasNoPage trace (BadTrace bad) = read_of trace ≡ Err bad
HasNoPage trace TooMuch = HasManyEvents trace
HasNoPage trace OutOfMemory = ⊤
