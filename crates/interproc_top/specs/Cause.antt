-- What ends a call before its whole output is written, and what tells of it.
use Rattle.std.specs.Prelude.{ℕ, List, ◌++◌, codes, decimal}
use Rattle.spl_text.specs.declared.place.Place.{Place}
use Rattle.spl_text.specs.declared.text_rule.TextRule.{TextRule}
use Rattle.spl_text.specs.declared.text_rule.TextRule.TheVariants as text
use Rattle.spl_types.specs.declared.fault.CheckRule.{CheckRule}
use Rattle.spl_types.specs.declared.fault.CheckRule.TheVariants as check
use Rattle.interproc_top.specs.declared.cause.Cause.{Cause}
use Rattle.interproc_top.specs.declared.cause.Cause.TheVariants as cause
use Rattle.interproc_top.specs.declared.cause.Rule.{Rule}
use Rattle.interproc_top.specs.declared.cause.Rule.TheVariants as rule
use Rattle.interproc_top.specs.declared.cause.Status.{Status}
use Rattle.interproc_top.specs.declared.cause.Verdict.{Verdict}
use Rattle.interproc_top.specs.declared.cause.Verdict.TheVariants as verdict
use Rattle.interproc_top.specs.declared.cause.Status.TheVariants as status

-- the status of the process
abbrev pub number_of : Status → ℕ
number_of status.Proved = 0
number_of status.Open = 1
number_of status.Usage = 2
number_of status.Refused = 3
number_of status.Outside = 4
number_of status.NoMemory = 5

-- what the report says of the fails
abbrev pub status_by : Verdict → Status
status_by verdict.AllUnreachable = status.Proved
status_by verdict.SomeNotExcluded = status.Open

abbrev pub status_of : Cause → Status
status_of cause.Usage = status.Usage
status_of cause.CannotOpen = status.Outside
status_of cause.ReadFault = status.Outside
status_of cause.TooLong = status.Refused
status_of (cause.Broken rule place) = status.Refused
status_of (cause.BadChoices place) = status.Refused
status_of (cause.NotARun step) = status.Refused
status_of (cause.Wide step) = status.Refused
status_of cause.WriteFault = status.Outside
status_of cause.NoMemory = status.NoMemory

-- the names of the rules
abbrev pub text_rule_name : TextRule → List ℕ
text_rule_name text.BadByte = codes "BadByte"
text_rule_name text.OpenComment = codes "OpenComment"
text_rule_name text.BigLiteral = codes "BigLiteral"
text_rule_name text.LongName = codes "LongName"
text_rule_name text.TooDeep = codes "TooDeep"
text_rule_name text.LongRun = codes "LongRun"

abbrev pub check_rule_name : CheckRule → List ℕ
check_rule_name check.UnsupportedType = codes "UnsupportedType"
check_rule_name check.DuplicateName = codes "DuplicateName"
check_rule_name check.UnknownVariable = codes "UnknownVariable"
check_rule_name check.UnknownProcedure = codes "UnknownProcedure"
check_rule_name check.WrongCount = codes "WrongCount"
check_rule_name check.RepeatedTarget = codes "RepeatedTarget"
check_rule_name check.WrongKind = codes "WrongKind"
check_rule_name check.TooManyVariables = codes "TooManyVariables"
check_rule_name check.TooManyProcedures = codes "TooManyProcedures"
check_rule_name check.TooManyPoints = codes "TooManyPoints"

abbrev pub rule_name : Rule → List ℕ
rule_name (rule.Text broken) = text_rule_name broken
rule_name rule.Syntax = codes "Syntax"
rule_name (rule.Check broken) = check_rule_name broken

-- `refused: RULE at L1 C7`
abbrev pub place_line : List ℕ → Place → List ℕ
place_line name place =
    codes "refused: " ++ (name ++ (codes " at L" ++ (decimal place.line ++ (codes " C" ++ (decimal place.column ++ codes "\n")))))

-- `refused: NotARun 4`
abbrev pub step_line : List ℕ → ℕ → List ℕ
step_line name step = codes "refused: " ++ (name ++ (codes " " ++ (decimal step ++ codes "\n")))

-- the line that goes to the second stream
abbrev pub line_of : Cause → List ℕ
line_of cause.Usage = codes "usage: interproc [--delay N] [--descend N] [--full] [--domain dec|full] FILE\n"
line_of cause.CannotOpen = codes "fault: CannotOpen\n"
line_of cause.ReadFault = codes "fault: ReadFault\n"
line_of cause.TooLong = codes "refused: TooLong\n"
line_of (cause.Broken rule place) = place_line (rule_name rule) place
line_of (cause.BadChoices place) = place_line (codes "BadChoices") place
line_of (cause.NotARun step) = step_line (codes "NotARun") step
line_of (cause.Wide step) = step_line (codes "Wide") step
line_of cause.WriteFault = codes "fault: WriteFault\n"
line_of cause.NoMemory = codes "out of memory\n"
