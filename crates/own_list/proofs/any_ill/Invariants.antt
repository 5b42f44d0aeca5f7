-- The entries before the one whose turn it is are judged, and of their widths.
use Rattle.std.proofs.Common.{◌≡◌, take}
use Rattle.std.specs.List.{list_any}
use Rattle.announcement.specs.Sized.{AllSized}
use Rattle.announcement.specs.Entries.{ill_entry}
use Rattle.own_list.proofs.any_ill.Given as goal

abbrev pub invariant-loop-entry : goal.invariant-loop-entry
invariant-loop-entry l = record {
  ill : l.ill ≡ list_any ill_entry (take l.entry-index l.list);
  sized : AllSized (take l.entry-index l.list);
}
