-- A space's fields as a contract sees them.
use Rattle.sa_spaces.specs.declared.space.SpaceDef.TheInside.{Inside}
use Rattle.sa_spaces.specs.Space.{SpaceView}

abbrev pub space_of : Inside → SpaceView
space_of s = record {
  priority = s.priority;
  mutexes = s.mutexes;
  sems = s.sems.items;
  cells = s.cells;
  absent = s.absent.items;
  programs = s.programs.items;
  patience = s.patience;
}
