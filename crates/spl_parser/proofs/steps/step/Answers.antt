-- Each state has its own step.
use Rattle.spl_tree.specs.Lists.{lists_of}
use Rattle.spl_parser.proofs.StepArms.{steps_arm, follow_arm, finished_arm}
use Rattle.spl_parser.proofs.steps.step.Goals as goal

pub returns-in-Start : goal.returns-in-Start
returns-in-Start c = follow_arm c.args.bytes.now (lists_of c.args.parts.now) c.args.token c.args.state _ _ c.in-Start.is c.at_start.ensures c.requires.ready c.requires.token

pub returns-in-Begin : goal.returns-in-Begin
returns-in-Begin c = follow_arm c.args.bytes.now (lists_of c.args.parts.now) c.args.token c.args.state _ _ c.in-Begin.is c.at_begin.ensures c.requires.ready c.requires.token

pub returns-in-ProcName : goal.returns-in-ProcName
returns-in-ProcName c = follow_arm c.args.bytes.now (lists_of c.args.parts.now) c.args.token c.args.state _ _ c.in-ProcName.is c.at_proc_name.ensures c.requires.ready c.requires.token

pub returns-in-DeclName : goal.returns-in-DeclName
returns-in-DeclName c = follow_arm c.args.bytes.now (lists_of c.args.parts.now) c.args.token c.args.state _ _ c.in-DeclName.is c.at_decl_name.ensures c.requires.ready c.requires.token

pub returns-in-InputsAfter : goal.returns-in-InputsAfter
returns-in-InputsAfter c = follow_arm c.args.bytes.now (lists_of c.args.parts.now) c.args.token c.args.state _ _ c.in-InputsAfter.is c.at_inputs_after.ensures c.requires.ready c.requires.token

pub returns-in-ReturnsWord : goal.returns-in-ReturnsWord
returns-in-ReturnsWord c = follow_arm c.args.bytes.now (lists_of c.args.parts.now) c.args.token c.args.state _ _ c.in-ReturnsWord.is c.at_returns_word.ensures c.requires.ready c.requires.token

pub returns-in-Target : goal.returns-in-Target
returns-in-Target c = follow_arm c.args.bytes.now (lists_of c.args.parts.now) c.args.token c.args.state _ _ c.in-Target.is c.at_target.ensures c.requires.ready c.requires.token

pub returns-in-TargetsAfter : goal.returns-in-TargetsAfter
returns-in-TargetsAfter c = follow_arm c.args.bytes.now (lists_of c.args.parts.now) c.args.token c.args.state _ _ c.in-TargetsAfter.is c.at_targets_after.ensures c.requires.ready c.requires.token

pub returns-in-CalledName : goal.returns-in-CalledName
returns-in-CalledName c = follow_arm c.args.bytes.now (lists_of c.args.parts.now) c.args.token c.args.state _ _ c.in-CalledName.is c.at_called_name.ensures c.requires.ready c.requires.token

pub returns-in-DeclAfter : goal.returns-in-DeclAfter
returns-in-DeclAfter c = steps_arm c.args.bytes.now (lists_of c.args.parts.now) _ c.args.token c.args.state _ _ c.in-DeclAfter.is (c.at_decl_after.ensures c.args.bytes.now)

pub returns-in-Single : goal.returns-in-Single
returns-in-Single c = steps_arm c.args.bytes.now (lists_of c.args.parts.now) _ c.args.token c.args.state _ _ c.in-Single.is (c.at_single.ensures c.args.bytes.now)

pub returns-in-AssignName : goal.returns-in-AssignName
returns-in-AssignName c = steps_arm c.args.bytes.now (lists_of c.args.parts.now) _ c.args.token c.args.state _ _ c.in-AssignName.is (c.at_assign_name.ensures c.args.bytes.now)

pub returns-in-Have : goal.returns-in-Have
returns-in-Have c = steps_arm c.args.bytes.now (lists_of c.args.parts.now) _ c.args.token c.args.state _ _ c.in-Have.is (c.at_have.ensures c.args.bytes.now)

pub returns-in-NamesAfter : goal.returns-in-NamesAfter
returns-in-NamesAfter c = steps_arm c.args.bytes.now (lists_of c.args.parts.now) _ c.args.token c.args.state _ _ c.in-NamesAfter.is (c.at_names_after.ensures c.args.bytes.now)

pub returns-in-CallAfter : goal.returns-in-CallAfter
returns-in-CallAfter c = steps_arm c.args.bytes.now (lists_of c.args.parts.now) _ c.args.token c.args.state _ _ c.in-CallAfter.is (c.at_call_after.ensures c.args.bytes.now)

pub returns-in-Finished : goal.returns-in-Finished
returns-in-Finished c = finished_arm c.args.bytes.now (lists_of c.args.parts.now) c.args.token c.args.state _ _ c.in-Finished.is
