-- What every page has.
use Rattle.std.specs.Prelude.{ℕ, List, ◌++◌}
use Rattle.sa_page.specs.declared.shell.head.TheConstants.{HEAD, BODY}
use Rattle.sa_page.specs.declared.shell.style.TheConstants.{STYLE}
use Rattle.sa_page.specs.declared.shell.data.TheConstants.{DATA}
use Rattle.sa_page.specs.declared.shell.lanes.TheConstants.{LANES}
use Rattle.sa_page.specs.declared.shell.drawing.TheConstants.{DRAWING}
use Rattle.sa_page.specs.declared.shell.panels.TheConstants.{PANELS}
use Rattle.sa_page.specs.declared.shell.moves.TheConstants.{MOVES}
use Rattle.sa_page.specs.declared.shell.start.TheConstants.{START}
use Rattle.sa_page.specs.declared.shell.TheConstants.{SCRIPT, CLOSE}

-- what comes before the data of a page, and after it
unfoldable pub front : List ℕ
front = HEAD.now ++ STYLE.now ++ BODY.now

unfoldable pub script_begin : List ℕ
script_begin = SCRIPT.now ++ DATA.now ++ LANES.now

unfoldable pub script_rest : List ℕ
script_rest = DRAWING.now ++ PANELS.now ++ MOVES.now ++ START.now

unfoldable pub back : List ℕ
back = script_begin ++ script_rest ++ CLOSE.now
