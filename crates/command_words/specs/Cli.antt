-- The command that `clap` reads.
use Rattle.std.specs.Prelude.{Some, [], ◌∷◌, codes, true, fold}
use Rattle.clap.specs.Simple.{App, new_app, new_rule, on_top, with_rule}
use Rattle.clap.specs.Walk.{Rule}
use Rattle.clap.specs.declared.builder.action.ArgAction.TheVariants.{Set, SetTrue}
use Rattle.command_words.specs.Items.{Kind, delay, descend, full, domain, file, name_of}

abbrev pub declared_flag : Kind → Rule
declared_flag kind = record (new_rule (name_of kind)) { long = Some (name_of kind); action = Some SetTrue }

abbrev pub declared : Kind → Rule
declared full = declared_flag full
declared file = record (new_rule (name_of file)) { required = true }
declared kind = record (new_rule (name_of kind)) { long = Some (name_of kind); action = Some Set }

unfoldable pub cli : App
cli = fold (λ app kind. with_rule app (declared kind))
    (on_top (λ s. record s { no_binary_name = true; disable_help_flag = true }) (new_app (codes "interproc")))
    (delay ∷ descend ∷ full ∷ domain ∷ file ∷ [])
