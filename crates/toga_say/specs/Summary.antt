-- The summary of a run.
use Rattle.std.specs.Prelude.{ℕ, ◌++◌, List, length, codes, decimal}
use Rattle.sa_base.specs.declared.record.End.{End}
use Rattle.sa_base.specs.declared.record.End.TheVariants.{AllDone, Stuck, Budget}
use Rattle.sa_waits.specs.declared.wait.Wait.{Wait}
use Rattle.sa_waits.specs.Waits.{waits_of}
use Rattle.toga_kinds.specs.Kinds.{turns_of}
use Rattle.toga_say.specs.Scene.{SceneView}
use Rattle.toga_say.specs.Notes.{notes_of}
use Rattle.toga_say.specs.Threads.{made_of, threads_text}
use Rattle.toga_say.specs.Circles.{circles_text}
use Rattle.toga_say.specs.Table.{table_text}
use Rattle.toga_say.specs.Values.{values_text}

-- how the run ended
abbrev pub end_text : End → ℕ → List ℕ
end_text AllDone events = codes "Done: every thread is done after " ++ decimal events ++ codes " events.\n"
end_text Stuck events = codes "Stuck: no thread can go on after " ++ decimal events ++ codes " events.\n"
end_text Budget events = codes "Ended by the budget: " ++ decimal events ++ codes " events were run.\n"

-- its threads, and who waits for whom
unfoldable pub machine_text : SceneView → List Wait → List ℕ
machine_text scene waits =
    threads_text scene (notes_of (length scene.replay.state.spaces) scene.items) waits (made_of scene.replay.state) ++ circles_text scene waits

unfoldable pub summary_text : SceneView → End → ℕ → List ℕ
summary_text scene end events =
    end_text end events ++ codes "\nthreads:\n" ++ machine_text scene (waits_of scene.replay.state) ++ codes "\nevents:\n"
    ++ table_text (turns_of scene.items) scene.replay.workload.processors ++ codes "\n" ++ values_text scene
