-- Relations: what holds of a run that has read and written nothing.
use Rattle.std.specs.Prelude.{◌≡◌, true, []}
use Rattle.link_wire.specs.Source.{is_fresh}
use Rattle.link_run.specs.Run.{Tool, Devices, devices_at, no_waits}
use Rattle.link_run.specs.declared.run.Run.{Ghosts}

-- The run of this tool was made with these devices, and has read and written nothing.
pub record IsNewRun {Self R W E : Type 0} (members : Ghosts Self R W E) (tool : Tool)
    (start : Devices R W E) (run : Self) : Type 0 where
  pub tool_is : members.tool run ≡ tool
  pub devices : devices_at (members.place run) ≡ start
  pub fresh : is_fresh (members.place run).source ≡ true
  pub stands : members.stands run start []
  pub waits : members.waits run ≡ no_waits start
