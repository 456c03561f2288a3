-- The line and the exit status that tell how a run ended.
use Rattle.std.specs.Prelude.{ℕ, List, [], ◌++◌, codes, decimal}
use Rattle.script_text.specs.LoadFaults.{load_fault_text}
use Rattle.stage_run.specs.declared.status.Status.{Status}
use Rattle.stage_run.specs.declared.status.Status.TheVariants as status

-- the line for a status, with its LF; none at Done
abbrev pub line_of : Status → List ℕ
line_of status.Done = []
line_of status.Usage = codes "qmlstage: usage: qmlstage MAIN SCRIPT [--size=WxH] [--schedule=LETTERS] [--stats]\n"
line_of (status.BadScript line) = codes "qmlstage: bad script, line " ++ (decimal line ++ codes "\n")
line_of (status.BadDocument fault) = codes "qmlstage: " ++ load_fault_text fault
line_of status.ReadFault = codes "qmlstage: read fault\n"
line_of status.WriteFault = codes "qmlstage: write fault\n"
line_of status.NoMemory = codes "qmlstage: no memory\n"

-- the exit status of the process
abbrev pub exit_code : Status → ℕ
exit_code status.Done = 0
exit_code status.Usage = 2
exit_code (status.BadScript line) = 3
exit_code (status.BadDocument fault) = 4
exit_code status.ReadFault = 5
exit_code status.WriteFault = 6
exit_code status.NoMemory = 7
