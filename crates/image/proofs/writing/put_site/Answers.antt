-- `put_site` meets its contract.
-- Assumes nothing.
use Rattle.image.proofs.Widths.{is_site, site_shape}
use Rattle.image.proofs.Written.{site_done}
use Rattle.image.proofs.writing.put_site.Goals as goal

pub returns : goal.returns
returns c =
    let s = c.args.s in
    (site_done s (site_shape s (is_site s _ c.well_formed.1.1.0)) c.args.out.now c.args.at _ _ _ _ _ _ _ _
    c.put_set.ensures
    c.put_set-2.ensures c.put_set-3.ensures
    c.put_set-4.ensures c.put_set-5.ensures c.put_column.ensures c.put_column-2.ensures
    c.put_record.ensures).is
