use Rattle.version_laws.proofs.Documents.{as_swept, document_stays, text_stays}
use Rattle.version_laws.proofs.texts.version_2_keeps_documents.Goals as goal

pub returns-clause-documents : goal.returns-clause-documents
returns-clause-documents c = document_stays

pub returns-clause-texts : goal.returns-clause-texts
returns-clause-texts c = text_stays

pub returns-clause-swept_keys : goal.returns-clause-swept_keys
returns-clause-swept_keys c = as_swept
