use Rattle.mx_thrift.proofs.Back.{decodes, reads}
use Rattle.mx_thrift.proofs.writing.write_struct.Goals as goal

pub returns-clause-decodes : goal.returns-clause-decodes
returns-clause-decodes c = decodes (λ out. out.items) c.args.fields.now c.requires c.put_fields.result c.put_fields.ensures

pub returns-clause-reads : goal.returns-clause-reads
returns-clause-reads c = reads (λ out. out.items) c.args.fields.now c.requires c.put_fields.result c.put_fields.ensures
