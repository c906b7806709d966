-- `answering::answer` meets its contract, arm by arm: each asks for and does what its kind says. Assumes nothing.
use mathlib.Core.Path.{◌≡◌, refl, ap}
use native.Mathlib.Omega.{arith}
use Rattle.calls_replies.specs.Replies.{no_reply}
use Rattle.calls_kinds.specs.Kinds.{Asked, asks_by, asks_of}
use Rattle.calls_kinds.specs.declared.Kind.TheVariants as kind
use Rattle.calls_changes.specs.Changes.{layout_of, write_of, change_of}
use Rattle.calls_reports.specs.Reports.{report_of}
use Rattle.calls_networks.specs.Networks.{network_of}
use Rattle.calls_tailed.specs.Reading.{load_of, lines_of, compare_of}
use Rattle.calls.specs.Effects.{effect_by}
use Rattle.calls.proofs.Done.{asks_of-kind, plainly, telling, tailing}
use Rattle.calls.proofs.answering.answer.Goals as goal

pub list-requires : goal.list-requires
list-requires c = let q = asks_of-kind c.args.c c.kind_of-kind.ensures c.in-List.is in
    (omega (arith, c.requires.rows, ap (λ (x : Asked). x.rows) q), omega (arith, c.requires.room, ap (λ (x : Asked). x.bytes) q))

pub line-requires : goal.line-requires
line-requires c = let q = asks_of-kind c.args.c c.kind_of-kind.ensures c.in-WriteLine.is in
    omega (arith, c.requires.room, ap (λ (x : Asked). x.bytes) q)

pub save-requires : goal.save-requires
save-requires c = let q = asks_of-kind c.args.c c.kind_of-kind.ensures c.in-Save.is in
    omega (arith, c.requires.room, ap (λ (x : Asked). x.bytes) q)

pub words-requires : goal.words-requires
words-requires c = let q = asks_of-kind c.args.c c.kind_of-kind.ensures c.in-ReadWords.is in
    omega (arith, c.requires.room, ap (λ (x : Asked). x.bytes) q)

pub mend-requires : goal.mend-requires
mend-requires c = let q = asks_of-kind c.args.c c.kind_of-kind.ensures c.in-Salvage.is in
    (c.requires.call, omega (arith, c.requires.room, ap (λ (x : Asked). x.bytes) q))

pub returns-in-Layout : goal.returns-in-Layout
unfolding effect_by
returns-in-Layout c = let a = c.args in plainly a.out.now a.at (layout_of a.pool.now a.c a.s.now) c.kind_of-kind.ensures c.in-Layout.is refl c.lay.ensures

pub returns-in-Report : goal.returns-in-Report
unfolding effect_by
returns-in-Report c = let a = c.args in telling a.out.now a.at (report_of a.pool.now a.c) c.kind_of-kind.ensures c.in-Report.is refl c.report.ensures

pub returns-in-Change : goal.returns-in-Change
unfolding effect_by
returns-in-Change c = let a = c.args in plainly a.out.now a.at (change_of a.pool.now a.c) c.kind_of-kind.ensures c.in-Change.is refl c.change.ensures

pub returns-in-List : goal.returns-in-List
unfolding effect_by
returns-in-List c = let a = c.args in tailing a.out.now a.at c.kind_of-kind.ensures c.in-List.is refl c.list.ensures.reply c.list.ensures.rows c.list.ensures.tail

pub returns-in-Network : goal.returns-in-Network
unfolding effect_by
returns-in-Network c = let a = c.args in telling a.out.now a.at (network_of a.s.now a.c) c.kind_of-kind.ensures c.in-Network.is refl c.network.ensures

pub returns-in-WriteLine : goal.returns-in-WriteLine
unfolding effect_by
returns-in-WriteLine c = let a = c.args in tailing a.out.now a.at c.kind_of-kind.ensures c.in-WriteLine.is refl c.line.ensures.reply refl c.line.ensures.tail

pub returns-in-Save : goal.returns-in-Save
unfolding effect_by
returns-in-Save c = let a = c.args in tailing a.out.now a.at c.kind_of-kind.ensures c.in-Save.is refl c.save.ensures.reply refl c.save.ensures.tail

pub returns-in-Load : goal.returns-in-Load
unfolding effect_by
returns-in-Load c = let a = c.args in plainly a.out.now a.at (load_of a.pool.now a.c a.s.now) c.kind_of-kind.ensures c.in-Load.is refl c.load.ensures

pub returns-in-Lines : goal.returns-in-Lines
unfolding effect_by
returns-in-Lines c = let a = c.args in plainly a.out.now a.at (lines_of a.pool.now a.c a.s.now) c.kind_of-kind.ensures c.in-Lines.is refl c.lines.ensures

pub returns-in-Compare : goal.returns-in-Compare
unfolding effect_by
returns-in-Compare c = let a = c.args in telling a.out.now a.at (compare_of a.c a.s.now) c.kind_of-kind.ensures c.in-Compare.is refl c.compare.ensures

pub returns-in-WriteWords : goal.returns-in-WriteWords
unfolding effect_by
returns-in-WriteWords c = let a = c.args in plainly a.out.now a.at (write_of a.pool.now a.c a.s.now) c.kind_of-kind.ensures c.in-WriteWords.is refl c.write.ensures

pub returns-in-ReadWords : goal.returns-in-ReadWords
unfolding effect_by
returns-in-ReadWords c = let a = c.args in tailing a.out.now a.at c.kind_of-kind.ensures c.in-ReadWords.is refl c.words.ensures.value refl c.words.ensures.out_after

pub returns-in-Salvage : goal.returns-in-Salvage
unfolding effect_by
returns-in-Salvage c = let a = c.args in tailing a.out.now a.at c.kind_of-kind.ensures c.in-Salvage.is refl c.mend.ensures.reply refl c.mend.ensures.tail

pub returns-in-Unknown : goal.returns-in-Unknown
unfolding effect_by
returns-in-Unknown c = let a = c.args in telling a.out.now a.at (no_reply 0) c.kind_of-kind.ensures c.in-Unknown.is refl c.only.ensures
