-- The parser's states and steps as the machine over trees sees them, from one place.
pub use Rattle.spl_parser.specs.StateMeaning.{stacked, word_of, head_of, decl_goal_of, before_of, ids_over, frame_of, body_of, goal_of, side_of, left_of, pending_of, paren_of, simple_of, targets_of, name_goal_of, closed_of, state_of}
pub use Rattle.spl_parser.specs.StateFacts.{ExprThere, WordIn, HeadIn, DeclGoalIn, BeforeIn, FrontIn, FrameIn, frame_held, body_held, BodyIn, GoalIn, SideIn, LeftIn, PendingIn, one_if, waiting, SimpleIn, TargetsIn, CallHeadIn, NameGoalIn, ClosedIn, StateIn, state_waiting, Small, Ready, TokenIn}
pub use Rattle.spl_parser.specs.StateSteps.{next_of, Reaches, Stops, Steps, Follows, Grows, NewWord, OpensBody, decls_end, Answers, ClosesDecls, names_end, RestOf, DeclDone, AddsStmt, OpensBlock, closed_stmt, closed_place, closed_word}
pub use Rattle.spl_parser.specs.StateOperands.{Folds, joined_tree, sided_tree, product_tree, sum_tree, conjunct_tree, whole_tree, waiting_within, IsFresh, AddsMinus, AddsNot, none_within, nothing_within, sign_of, after_operator, Shifts}
